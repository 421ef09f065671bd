-- A command is kept exactly where nothing stands against it.
use Rattle.std.proofs.Common.{◌≡◌, ◌↔◌, ℕ, ◌+◌, Bool, true, false, ◌==◌, cond, nat_le, nat_lt, List, [], ◌∷◌, ◌++◌, length, Option, Result, Ok, Err, refl, sym, ap, ◌∙◌, arith, length-append}
use Rattle.std.proofs.lemmas.Bool.{true≢false, eqb-true, eqb-false, ltb-true, ltb-false, leb-true, leb-false, not-true, not-false}
use Rattle.inst_base.specs.TimeLimit.{deadline_of, is_in_time, is_due, is_ahead}
use Rattle.inst_base.specs.declared.fault.Fault.{Fault}
use Rattle.inst_base.specs.declared.fault.Fault.TheVariants.{SelfTransfer, Duplicate, StampAhead, Expired, Full, Shortage}
use Rattle.inst_settings.specs.Settings.{HubSettings}
use Rattle.inst_command.specs.declared.funding.Funding.{Funding}
use Rattle.inst_command.specs.declared.outcome.Outcome.{Outcome}
use Rattle.inst_command.specs.declared.reply.Reply.{Reply}
use Rattle.inst_command.specs.declared.reply.Reply.TheVariants.{Done}
use Rattle.inst_command.specs.declared.submission.Submission.{Submission}
use Rattle.inst_journal.specs.declared.event.Event.{Event}
use Rattle.inst_journal.specs.declared.event.Event.TheVariants.{Funded, Defunded}
use Rattle.inst_journal.specs.declared.handle.Handled.{Handled}
use Rattle.inst_journal.specs.Booked.{takes, is_taken}
use Rattle.inst_journal.specs.Keys.{is_fund_repeat, is_defund_repeat, is_submission_repeat, refers, has_reference, fundings}
use Rattle.inst_journal.specs.Money.{available}
use Rattle.inst_journal.specs.Opened.{live_submissions}
use Rattle.inst_journal.specs.Repeats.{taken_of, taken_reply}
use Rattle.inst_journal.specs.Reply.{reply_without_event, reply_with_event, funding, is_new_funding, fund, defund, submit, kept_events}
use Rattle.inst_journal.specs.Taking.{MayFund, MayDefund, MayTake, IsKeptWhereItMay}
use Rattle.inst_journal.proofs.TestOfOneThingFindsIt.{there_is_found}
use Rattle.inst_settings.proofs.CodeTellsNumber.{same_text_refl}
use Rattle.inst_journal.proofs.RepeatIsAnsweredAgain.{the_very_same}

-- the event is kept exactly where P
abbrev Keeps : List Event → Event → Type 0 → Result Handled Fault → Type 0
Keeps J event P h = (J ++ kept_events h ≡ J ++ event ∷ []) ↔ P

either : (J : List Event) (event : Event) (P : Type 0) (b : Bool) (x y : Result Handled Fault)
    → (b ≡ true → Keeps J event P x) → (b ≡ false → Keeps J event P y) → Keeps J event P (cond b x y)
either J event P true x y first second = first refl
either J event P false x y first second = second refl

one_more : (J : List Event) (event : Event) → J ++ [] ≡ J ++ event ∷ [] → ⊥
one_more J event same =
    let long = ap length same in
    let none = length-append J [] in
    let one = length-append J (event ∷ []) in
    omega (arith, long, none, one)

-- nothing is kept where P doesn't hold
refused : (J : List Event) (event : Event) (P : Type 0) (fault : Fault) → (P → ⊥) → Keeps J event P (Err fault)
refused J event P fault never = (λ same. absurd (one_more J event same), λ p. absurd (never p))

told_only : (J : List Event) (event : Event) (P : Type 0) (reply : Reply) → (P → ⊥) → Keeps J event P (reply_without_event reply)
told_only J event P reply never = (λ same. absurd (one_more J event same), λ p. absurd (never p))

kept_now : (J : List Event) (event : Event) (P : Type 0) (reply : Reply) → P → Keeps J event P (reply_with_event event reply)
kept_now J event P reply p = (λ same. p, λ _. refl)

-- a repeat's key is kept
repeat_taken : (J : List Event) (x : Submission) → is_submission_repeat x J ≡ true → is_taken x.id J ≡ true
repeat_taken J x repeat = there_is_found (takes x.id) (taken_of x) J (same_text_refl x.id) (((the_very_same J).submission x).0 repeat)

fund_referred : (J : List Event) (funding : Funding) → is_fund_repeat funding J ≡ true → has_reference funding.reference J ≡ true
fund_referred J funding repeat =
    there_is_found (refers funding.reference) (Funded funding) J (same_text_refl funding.reference) (((the_very_same J).fund funding).0 repeat)

defund_referred : (J : List Event) (funding : Funding) → is_defund_repeat funding J ≡ true → has_reference funding.reference J ≡ true
defund_referred J funding repeat =
    there_is_found (refers funding.reference) (Defunded funding) J (same_text_refl funding.reference) (((the_very_same J).defund funding).0 repeat)

takes_where : (s : HubSettings) (who : ℕ) (J : List Event) (at : ℕ) (x : Submission) → Keeps J (taken_of x) (MayTake s who J x at) (submit s who J at x)
takes_where s who J at x =
    let deadline = deadline_of s.limit x.stamp in
    let event : Event = taken_of x in
    let P : Type 0 = MayTake s who J x at in
    either J event P (x.to == who) _ _
    (λ own. refused J event P SelfTransfer (λ p. p.another (eqb-true x.to who own)))
    (λ another. either J event P (is_submission_repeat x J) _ _
    (λ repeat. told_only J event P (taken_reply s x) (λ p. true≢false (sym (repeat_taken J x repeat) ∙ p.new)))
    (λ _. either J event P (is_taken x.id J) _ _ (λ taken. refused J event P Duplicate (λ p. true≢false (sym taken ∙ p.new)))
    (λ new. either J event P (is_ahead s.ahead x.stamp at) _ _
    (λ ahead. refused J event P StampAhead (λ p. let far = ltb-true (at + s.ahead) x.stamp ahead in omega (arith, far, p.stamp)))
    (λ stamp. either J event P (is_due deadline at) _ _
    (λ due. refused J event P Expired (λ p. let late = ltb-false at deadline (not-true (is_in_time deadline at) due) in omega (arith, late, p.in_time)))
    (λ in_time. either J event P (nat_le s.places (live_submissions who J)) _ _
    (λ full. refused J event P Full (λ p. let used = leb-true s.places (live_submissions who J) full in omega (arith, used, p.place)))
    (λ room. either J event P (nat_lt (available J) x.cents) _ _
    (λ short. refused J event P Shortage (λ p. let less = ltb-true (available J) x.cents short in omega (arith, less, p.cover)))
    (λ cover. kept_now J event P (taken_reply s x) (record {
      another = eqb-false x.to who another;
      new = new;
      stamp = ltb-false (at + s.ahead) x.stamp stamp;
      in_time = ltb-true at deadline (not-false (is_in_time deadline at) in_time);
      place = leb-false s.places (live_submissions who J) room;
      cover = ltb-false (available J) x.cents cover;
    }))))))))

-- a fund or defund command, whatever a new one comes to
funding_where : (s : HubSettings) (J : List Event) (reference : List ℕ) (event : Event) (P : Type 0) (new : Result Handled Fault) (is_repeat : Bool)
    → (P → MayFund s J reference) → (is_repeat ≡ true → has_reference reference J ≡ true)
    → (MayFund s J reference → Keeps J event P new)
    → Keeps J event P (funding reference new (is_new_funding s J reference is_repeat))
funding_where s J reference event P new true may referred anew =
    told_only J event P (Done reference) (λ p. true≢false (sym (referred refl) ∙ (may p).new))
funding_where s J reference event P new false may referred anew =
    elim (has_reference reference J) as (λ (b : Bool). has_reference reference J ≡ b →
    Keeps J event P (funding reference new (cond b (Err Duplicate) (cond (nat_le s.fundings (fundings J)) (Err Full) (Ok true))))) [
      | true ↦ λ kept. refused J event P Duplicate (λ p. true≢false (sym kept ∙ (may p).new))
      | false ↦ λ unkept.
          elim (nat_le s.fundings (fundings J)) as (λ (b : Bool). nat_le s.fundings (fundings J) ≡ b →
          Keeps J event P (funding reference new (cond b (Err Full) (Ok true)))) [
            | true ↦ λ full. refused J event P Full (λ p. let used = leb-true s.fundings (fundings J) full in omega (arith, used, (may p).place))
            | false ↦ λ room. anew (record { new = unkept; place = leb-false s.fundings (fundings J) room })
          ] refl
    ] refl

funds_where : (s : HubSettings) (J : List Event) (funding : Funding) → Keeps J (Funded funding) (MayFund s J funding.reference) (fund s J funding)
funds_where s J funding =
    funding_where s J funding.reference (Funded funding) (MayFund s J funding.reference) _ (is_fund_repeat funding J) (λ p. p)
    (fund_referred J funding) (kept_now J (Funded funding) (MayFund s J funding.reference) (Done funding.reference))

defunds_where : (s : HubSettings) (J : List Event) (funding : Funding)
    → Keeps J (Defunded funding) (MayDefund s J funding) (defund s J funding)
defunds_where s J funding =
    let event : Event = Defunded funding in
    let P : Type 0 = MayDefund s J funding in
    funding_where s J funding.reference event P _ (is_defund_repeat funding J) (λ p. p.funding) (defund_referred J funding)
    (λ may. either J event P (nat_lt (available J) funding.cents) _ _
    (λ short. refused J event P Shortage (λ p. let less = ltb-true (available J) funding.cents short in omega (arith, less, p.cover)))
    (λ cover. kept_now J event P (Done funding.reference) (record { funding = may; cover = ltb-false (available J) funding.cents cover })))

-- a command is kept where it may
pub kept_where_it_may : (s : HubSettings) (who : ℕ) (J : List Event) (at : ℕ) (found : Option Outcome) → IsKeptWhereItMay s who J at found
kept_where_it_may s who J at found = record {
  submission = λ x. takes_where s who J at x;
  fund = λ funding. funds_where s J funding;
  defund = λ funding. defunds_where s J funding;
}
