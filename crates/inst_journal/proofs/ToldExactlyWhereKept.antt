-- What is told done or taken is kept, and what is kept is told.
use Rattle.std.proofs.Common.{◌≡◌, ◌≢◌, ◌↔◌, ℕ, Bool, true, false, ◌==◌, cond, nat_le, nat_lt, List, [], ◌++◌, Option, Result, Ok, Err, refl, sym, ◌∙◌, subst, append-nil, Contains}
use Rattle.std.specs.List.{AllByRecursion}
use Rattle.std.proofs.lemmas.Bool.{true≢false, eqb-true}
use Rattle.std.proofs.lemmas.List.Elements.{Contains-append_left, Contains-push, All-from_recursion, All-contains}
use Rattle.inst_base.specs.TimeLimit.{deadline_of, is_due, is_ahead}
use Rattle.inst_base.specs.declared.fault.Fault.{Fault}
use Rattle.inst_base.specs.declared.fault.Fault.TheVariants.{SelfTransfer, Duplicate, StampAhead, Expired, Full, Shortage}
use Rattle.inst_settings.specs.Settings.{HubSettings}
use Rattle.inst_command.specs.declared.funding.Funding.{Funding}
use Rattle.inst_command.specs.declared.outcome.Outcome.{Outcome}
use Rattle.inst_journal.specs.declared.event.Event.{Event}
use Rattle.inst_journal.specs.declared.event.Event.TheVariants.{Funded, Defunded, Taken, Forwarded, Booked, Fetched, Opened}
use Rattle.inst_command.specs.declared.reply.Reply.{Reply}
use Rattle.inst_command.specs.declared.reply.Reply.TheVariants.{Done}
use Rattle.inst_command.specs.declared.submission.Submission.{Submission}
use Rattle.inst_journal.specs.declared.handle.Handled.{Handled}
use Rattle.inst_journal.specs.Booked.{is_taken}
use Rattle.inst_journal.specs.Keys.{is_fund_repeat, is_defund_repeat, is_submission_repeat, has_reference, fundings}
use Rattle.inst_journal.specs.Money.{available}
use Rattle.inst_journal.specs.Opened.{live_submissions}
use Rattle.inst_journal.specs.Repeats.{taken_of, taken_reply, AreToldWhereKept}
use Rattle.inst_journal.specs.Reply.{reply_without_event, reply_with_event, funding, is_new_funding, fund, defund, submit, kept_events, reply_result}
use Rattle.inst_journal.specs.Sound.{Fits, IsSound}
use Rattle.inst_journal.proofs.OneMoreElement.{all_push}
use Rattle.inst_journal.proofs.RepeatIsAnsweredAgain.{the_very_same}
use Rattle.inst_journal.proofs.Soundness.{sound_induction}

-- a command is told this reply exactly where this event is kept or was
abbrev Tells : List Event → Reply → Event → Result Handled Fault → Type 0
Tells J reply event h = (reply_result h ≡ Ok reply) ↔ Contains (J ++ kept_events h) event

either : (J : List Event) (reply : Reply) (event : Event) (b : Bool) (x y : Result Handled Fault) → (b ≡ true → Tells J reply event x) → (b ≡ false → Tells J reply event y) → Tells J reply event (cond b x y)
either J reply event true x y first second = first refl
either J reply event false x y first second = second refl

-- a refusal, where the event isn't there
refused : (J : List Event) (reply : Reply) (event : Event) (fault : Fault) → (Contains J event → ⊥) → Tells J reply event (Err fault)
refused J reply event fault nowhere = (
  λ e. absurd (cc),
  λ there. absurd (nowhere (subst (λ (K : List Event). Contains K event) (append-nil J) there)),
)

-- the kept reply, where the event is there
repeated : (J : List Event) (reply : Reply) (event : Event) → Contains J event → Tells J reply event (reply_without_event reply)
repeated J reply event there = (λ e. Contains-append_left J [] event there, λ after. refl)

done_now : (J : List Event) (reply : Reply) (event : Event) → Tells J reply event (reply_with_event event reply)
done_now J reply event = (λ e. Contains-push J event, λ after. refl)

-- each taken submission is to another participant
abbrev IsToAnother : ℕ → Event → Type 0
IsToAnother who (Taken id to cents stamp) = to ≢ who
IsToAnother who (Funded funding) = Unit {0}
IsToAnother who (Defunded funding) = Unit {0}
IsToAnother who (Forwarded from id cents deadline) = Unit {0}
IsToAnother who (Booked from id outcome) = Unit {0}
IsToAnother who (Fetched count) = Unit {0}
IsToAnother who Opened = Unit {0}

to_another : (s : HubSettings) (who : ℕ) (J : List Event) (event : Event) → Fits s who J event → IsToAnother who event
to_another s who J (Taken id to cents stamp) fits = fits.another
to_another s who J (Funded funding) fits = tt
to_another s who J (Defunded funding) fits = tt
to_another s who J (Forwarded from id cents deadline) fits = tt
to_another s who J (Booked from id outcome) fits = tt
to_another s who J (Fetched count) fits = tt
to_another s who J Opened fits = tt

all_to_another : (s : HubSettings) (who : ℕ) (J : List Event) → IsSound s who J → AllByRecursion (IsToAnother who) J
all_to_another s who = sound_induction s who (λ J. AllByRecursion (IsToAnother who) J) tt
    (λ J event sound fits before. all_push (IsToAnother who) J event before (to_another s who J event fits))

taken_to_another : (s : HubSettings) (who : ℕ) (J : List Event) (x : Submission) → IsSound s who J → Contains J (taken_of x) → x.to ≢ who
taken_to_another s who J x sound there = All-contains (IsToAnother who) J (taken_of x) (All-from_recursion (IsToAnother who) J (all_to_another s who J sound)) there

tells_taken : (s : HubSettings) (who : ℕ) (J : List Event) (at : ℕ) (x : Submission) → IsSound s who J → Tells J (taken_reply s x) (taken_of x) (submit s who J at x)
tells_taken s who J at x sound =
    let deadline = deadline_of s.limit x.stamp in
    let reply : Reply = taken_reply s x in
    let event : Event = taken_of x in
    either J reply event (x.to == who) _ _
    (λ own. refused J reply event SelfTransfer (λ there. taken_to_another s who J x sound there (eqb-true x.to who own)))
    (λ _. either J reply event (is_submission_repeat x J) _ _
    (λ repeat. repeated J reply event (((the_very_same J).submission x).0 repeat))
    (λ new.
    let nowhere : Contains J event → ⊥ = λ there. true≢false (sym (((the_very_same J).submission x).1 there) ∙ new) in
    either J reply event (is_taken x.id J) _ _ (λ _. refused J reply event Duplicate nowhere)
    (λ _. either J reply event (is_ahead s.ahead x.stamp at) _ _ (λ _. refused J reply event StampAhead nowhere)
    (λ _. either J reply event (is_due deadline at) _ _ (λ _. refused J reply event Expired nowhere)
    (λ _. either J reply event (nat_le s.places (live_submissions who J)) _ _ (λ _. refused J reply event Full nowhere)
    (λ _. either J reply event (nat_lt (available J) x.cents) _ _ (λ _. refused J reply event Shortage nowhere)
    (λ _. done_now J reply event)))))))

-- a fund or defund command, whatever a new one comes to
tells_funding : (s : HubSettings) (J : List Event) (reference : List ℕ) (event : Event) (new : Result Handled Fault) (is_repeat : Bool)
    → (is_repeat ≡ true → Contains J event) → (is_repeat ≡ false → Contains J event → ⊥) → (is_repeat ≡ false → Tells J (Done reference) event new)
    → Tells J (Done reference) event (funding reference new (is_new_funding s J reference is_repeat))
tells_funding s J reference event new true there nowhere anew = repeated J (Done reference) event (there refl)
tells_funding s J reference event new false there nowhere anew =
    elim (has_reference reference J) as (λ (b : Bool). Tells J (Done reference) event (funding reference new (cond b (Err Duplicate) (cond (nat_le s.fundings (fundings J)) (Err Full) (Ok true))))) [
      | true ↦ refused J (Done reference) event Duplicate (nowhere refl)
      | false ↦
          elim (nat_le s.fundings (fundings J)) as (λ (b : Bool). Tells J (Done reference) event (funding reference new (cond b (Err Full) (Ok true)))) [
            | true ↦ refused J (Done reference) event Full (nowhere refl)
            | false ↦ anew refl
          ]
    ]

tells_funded : (s : HubSettings) (J : List Event) (funding : Funding) → Tells J (Done funding.reference) (Funded funding) (fund s J funding)
tells_funded s J funding =
    let same = (the_very_same J).fund funding in
    tells_funding s J funding.reference (Funded funding) _ (is_fund_repeat funding J) same.0 (λ new there. true≢false (sym (same.1 there) ∙ new))
    (λ _. done_now J (Done funding.reference) (Funded funding))

tells_defunded : (s : HubSettings) (J : List Event) (funding : Funding) → Tells J (Done funding.reference) (Defunded funding) (defund s J funding)
tells_defunded s J funding =
    let same = (the_very_same J).defund funding in
    let nowhere : is_defund_repeat funding J ≡ false → Contains J (Defunded funding) → ⊥ = λ new there. true≢false (sym (same.1 there) ∙ new) in
    tells_funding s J funding.reference (Defunded funding) _ (is_defund_repeat funding J) same.0 nowhere
    (λ new. either J (Done funding.reference) (Defunded funding) (nat_lt (available J) funding.cents) _ _
    (λ _. refused J (Done funding.reference) (Defunded funding) Shortage (nowhere new))
    (λ _. done_now J (Done funding.reference) (Defunded funding)))

-- done and taken are told where they are kept
pub told_where_kept : (s : HubSettings) (who : ℕ) (J : List Event) → IsSound s who J → (at : ℕ) (found : Option Outcome) → AreToldWhereKept s who J at found
told_where_kept s who J sound at found = record {
  submission = λ x. tells_taken s who J at x sound;
  fund = λ funding. tells_funded s J funding;
  defund = λ funding. tells_defunded s J funding;
}
