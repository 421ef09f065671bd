-- A repeat's contents are kept, and it is answered before anything else is asked of it.
use Rattle.std.proofs.Common.{ap₂, ◌≡◌, ◌≢◌, ℕ, true, ◌==◌, ◌&&◌, List, ◌++◌, Option, refl, sym, ap, ◌∙◌, append-nil}
use Rattle.std.specs.Cmp.Lexicographic.{same_text as text_same}
use Rattle.std.proofs.lemmas.Bool.{false≢true, and_parts, and_from, eqb-true, eq-eqb, ne_eqb}
use Rattle.inst_settings.specs.Settings.{HubSettings, same_text}
use Rattle.inst_settings.proofs.CodeTellsNumber.{same_text_refl}
use Rattle.inst_command.specs.declared.funding.Funding.{Funding}
use Rattle.inst_command.specs.declared.outcome.Outcome.{Outcome}
use Rattle.inst_journal.specs.declared.event.Event.{Event}
use Rattle.inst_journal.specs.declared.event.Event.TheVariants.{Funded, Defunded, Taken, Forwarded, Booked, Fetched, Opened}
use Rattle.inst_command.specs.declared.command.Command.{Command}
use Rattle.inst_command.specs.declared.command.Command.TheVariants.{Fund, Defund, Submit}
use Rattle.inst_command.specs.declared.reply.Reply.{Reply}
use Rattle.inst_command.specs.declared.reply.Reply.TheVariants.{Done}
use Rattle.inst_command.specs.declared.submission.Submission.{Submission}
use Rattle.inst_journal.specs.Keys.{is_this_fund, is_this_defund, is_this_submission, is_fund_repeat, is_defund_repeat, is_submission_repeat}
use Rattle.inst_journal.specs.Repeats.{taken_of, taken_reply, IsTheVerySame, IsAnsweredOnly, IsAnsweredAgain}
use Rattle.inst_journal.specs.Reply.{reply_without_event, fund, defund, submit, handle, kept_events, reply_result}
use Rattle.inst_journal.proofs.TestOfOneThingFindsIt.{found_is_there, there_is_found}

number_itself : (n : ℕ) → (n == n) ≡ true
number_itself n = eq-eqb n n refl

this_fund : (funding : Funding) (event : Event) → is_this_fund funding event ≡ true → event ≡ Funded funding
this_fund f (Funded funding) same =
    let parts = and_parts (same_text funding.reference f.reference) (funding.cents == f.cents) same in
    let text : funding.reference ≡ f.reference = text_same funding.reference f.reference (sym parts.0) in
    let number : funding.cents ≡ f.cents = eqb-true funding.cents f.cents parts.1 in
    ap₂ (λ (r : List ℕ) (c : ℕ). Funded (record { reference = r; cents = c })) text number
this_fund f (Defunded funding) same = absurd (false≢true same)
this_fund funding (Taken id to amount stamp) same = absurd (false≢true same)
this_fund funding (Forwarded from id amount deadline) same = absurd (false≢true same)
this_fund funding (Booked from id outcome) same = absurd (false≢true same)
this_fund funding (Fetched count) same = absurd (false≢true same)
this_fund funding Opened same = absurd (false≢true same)

this_defund : (funding : Funding) (event : Event) → is_this_defund funding event ≡ true → event ≡ Defunded funding
this_defund f (Defunded funding) same =
    let parts = and_parts (same_text funding.reference f.reference) (funding.cents == f.cents) same in
    let text : funding.reference ≡ f.reference = text_same funding.reference f.reference (sym parts.0) in
    let number : funding.cents ≡ f.cents = eqb-true funding.cents f.cents parts.1 in
    ap₂ (λ (r : List ℕ) (c : ℕ). Defunded (record { reference = r; cents = c })) text number
this_defund f (Funded funding) same = absurd (false≢true same)
this_defund funding (Taken id to amount stamp) same = absurd (false≢true same)
this_defund funding (Forwarded from id amount deadline) same = absurd (false≢true same)
this_defund funding (Booked from id outcome) same = absurd (false≢true same)
this_defund funding (Fetched count) same = absurd (false≢true same)
this_defund funding Opened same = absurd (false≢true same)

this_submission : (x : Submission) (event : Event) → is_this_submission x event ≡ true → event ≡ taken_of x
this_submission x (Taken id to cents stamp) same =
    let last = and_parts (same_text id x.id && (to == x.to) && (cents == x.cents)) (stamp == x.stamp) same in
    let third = and_parts (same_text id x.id && (to == x.to)) (cents == x.cents) last.0 in
    let first = and_parts (same_text id x.id) (to == x.to) third.0 in
    let text : id ≡ x.id = text_same id x.id (sym first.0) in
    let beneficiary : to ≡ x.to = eqb-true to x.to first.1 in
    let amount : cents ≡ x.cents = eqb-true cents x.cents third.1 in
    let moment : stamp ≡ x.stamp = eqb-true stamp x.stamp last.1 in
    cc
this_submission x (Funded funding) same = absurd (false≢true same)
this_submission x (Defunded funding) same = absurd (false≢true same)
this_submission x (Forwarded from id amount deadline) same = absurd (false≢true same)
this_submission x (Booked from id outcome) same = absurd (false≢true same)
this_submission x (Fetched count) same = absurd (false≢true same)
this_submission x Opened same = absurd (false≢true same)

submission_itself : (x : Submission) → is_this_submission x (taken_of x) ≡ true
submission_itself x =
    and_from (same_text x.id x.id && (x.to == x.to) && (x.cents == x.cents)) (x.stamp == x.stamp)
    (and_from (same_text x.id x.id && (x.to == x.to)) (x.cents == x.cents)
    (and_from (same_text x.id x.id) (x.to == x.to) (same_text_refl x.id) (number_itself x.to)) (number_itself x.cents)) (number_itself x.stamp)

funding_itself : (funding : Funding) → (same_text funding.reference funding.reference && (funding.cents == funding.cents)) ≡ true
funding_itself funding = and_from (same_text funding.reference funding.reference) (funding.cents == funding.cents) (same_text_refl funding.reference) (number_itself funding.cents)

-- a repeat is the very same
pub the_very_same : (J : List Event) → IsTheVerySame J
the_very_same J = record {
  submission = λ x. (
    found_is_there (is_this_submission x) (taken_of x) J (this_submission x),
    there_is_found (is_this_submission x) (taken_of x) J (submission_itself x),
  );
  fund = λ funding. (
    found_is_there (is_this_fund funding) (Funded funding) J (this_fund funding),
    there_is_found (is_this_fund funding) (Funded funding) J (funding_itself funding),
  );
  defund = λ funding. (
    found_is_there (is_this_defund funding) (Defunded funding) J (this_defund funding),
    there_is_found (is_this_defund funding) (Defunded funding) J (funding_itself funding),
  );
}

submit_again : (s : HubSettings) (who : ℕ) (J : List Event) (at : ℕ) (x : Submission) → is_submission_repeat x J ≡ true → x.to ≢ who → submit s who J at x ≡ reply_without_event (taken_reply s x)
submit_again s who J at x repeat another = rw (ne_eqb x.to who another, repeat) refl

fund_again : (s : HubSettings) (J : List Event) (funding : Funding) → is_fund_repeat funding J ≡ true → fund s J funding ≡ reply_without_event (Done funding.reference)
fund_again s J funding repeat = rw repeat refl

defund_again : (s : HubSettings) (J : List Event) (funding : Funding) → is_defund_repeat funding J ≡ true → defund s J funding ≡ reply_without_event (Done funding.reference)
defund_again s J funding repeat = rw repeat refl

-- what is answered only is told and leaves the history
answered_only : (s : HubSettings) (who : ℕ) (J : List Event) (command : Command) (at : ℕ) (found : Option Outcome) (reply : Reply) → handle s who J command at found ≡ reply_without_event reply → IsAnsweredOnly s who J command at found reply
answered_only s who J command at found reply same = record {
  answer = ap reply_result same;
  kept_nothing = ap (λ h. J ++ kept_events h) same ∙ append-nil J;
}

-- a repeat is answered again
pub answered_again : (s : HubSettings) (who : ℕ) (J : List Event) (at : ℕ) (found : Option Outcome) → IsAnsweredAgain s who J at found
answered_again s who J at found = record {
  submission = λ x repeat another. answered_only s who J (Submit x) at found (taken_reply s x) (submit_again s who J at x repeat another);
  fund = λ funding repeat. answered_only s who J (Fund funding) at found (Done funding.reference) (fund_again s J funding repeat);
  defund = λ funding repeat. answered_only s who J (Defund funding) at found (Done funding.reference) (defund_again s J funding repeat);
}
