-- A party that asks after a transfer is answered its outcome and has it booked.
use Rattle.std.proofs.Common.{◌≡◌, ℕ, cond, List, [], ◌∷◌, Option, Some, None, Result, Ok, Err, refl, ap, ◌∙◌}
use Rattle.std.proofs.lemmas.Bool.{cond-true}
use Rattle.inst_base.specs.declared.fault.Fault.{Fault}
use Rattle.inst_base.specs.declared.fault.Fault.TheVariants.{Expired}
use Rattle.inst_settings.specs.Settings.{HubSettings}
use Rattle.inst_command.specs.declared.ask.Ask.{Ask as AskValue}
use Rattle.inst_command.specs.declared.command.Command.{Command}
use Rattle.inst_command.specs.declared.command.Command.TheVariants.{Confirm, Reject, Investigate}
use Rattle.inst_command.specs.declared.outcome.Outcome.{Outcome}
use Rattle.inst_command.specs.declared.outcome.State.TheVariants.{Pending, Decided}
use Rattle.inst_command.specs.declared.reply.Answer.TheVariants.{Reply}
use Rattle.inst_command.specs.declared.reply.Reply.{Reply as ReplyValue}
use Rattle.inst_command.specs.declared.reply.Reply.TheVariants.{State}
use Rattle.inst_command.specs.declared.step.Step.{Step}
use Rattle.inst_command.specs.declared.step.Step.TheVariants.{Ask}
use Rattle.inst_journal.specs.declared.event.Event.{Event}
use Rattle.inst_journal.specs.Answering.{TellsTheOutcome}
use Rattle.inst_journal.specs.Booked.{is_taken, is_forwarded, booked}
use Rattle.inst_journal.specs.Reply.{reply, history_after}
use Rattle.inst_journal.proofs.OutcomeIsToldToPartiesAlone.{told_the_outcome}
use Rattle.inst_model.specs.Found.{found}
use Rattle.inst_model.specs.Hub.{outcome, history}
use Rattle.inst_model.specs.Kept.{with_entries}
use Rattle.inst_model.specs.Learning.{IsTold, AskingTells}
use Rattle.inst_model.specs.Opening.{Opening, IsOpening}
use Rattle.inst_model.specs.Trace.{as_reply}
use Rattle.inst_model.specs.View.{sees}
use Rattle.inst_model.specs.View.Seen.{Asked}
use Rattle.inst_model.proofs.TextsTestsAndFirstThings.{eqb_refl}
use Rattle.inst_model.proofs.HistoryKeepsWhatItHas.{booked_new}
use Rattle.inst_model.proofs.Histories.{history_step}
use Rattle.inst_model.proofs.Outcomes.{outcome_later, booked_outcome}

-- what is found is told and booked, where nothing else is booked
told : (s : HubSettings) (who : ℕ) (J : List Event) (command : Command) (at from : ℕ) (id : List ℕ)
    (pending : Result ReplyValue Fault) (there : Option Outcome) (o : Outcome)
    → TellsTheOutcome s who J command at from id pending → there ≡ Some o
    → (known : Option Outcome) → booked from id J ≡ known → ((q : Outcome) → known ≡ Some q → q ≡ o)
    → (reply s who J command at there ≡ Ok (State from id (Decided o))) × (booked from id (history_after s who J command at there) ≡ Some o)
told s who J command at from id pending there o tells is None unknown same =
    let leads = tells.new o unknown in (
      ap (reply s who J command at) is ∙ leads.answered,
      ap (λ f. booked from id (history_after s who J command at f)) is ∙ ap (booked from id) leads.leaves ∙ booked_new from id o J unknown,
    )
told s who J command at from id pending there o tells is (Some q) known same =
    let leads = tells.known q there known in
    let it : q ≡ o = same q refl in (
      leads.answered ∙ ap (λ (x : Outcome). Ok (State from id (Decided x))) it,
      ap (booked from id) leads.leaves ∙ known ∙ ap Some it,
    )

-- an ask that finds the outcome
asked : (s : HubSettings) (O : Opening) → IsOpening s O → (past : List Step) (who : ℕ) (command : Command)
    (at from : ℕ) (id : List ℕ) (o : Outcome) (pending : Result ReplyValue Fault)
    → TellsTheOutcome s who (history s O past who) command at from id pending
    → ((outcomes : ℕ → List ℕ → Option Outcome) → found outcomes who (history s O past who) command ≡ outcomes from id)
    → IsTold s O past who command at from id o
asked s O opened past who command at from id o pending tells finds is =
    let ask : AskValue = record { who = who; command = command; at = at } in
    let J : List Event = history s O past who in
    let after : ℕ → List ℕ → Option Outcome = outcome s O (Ask ask ∷ past) in
    let there : Option Outcome = found after who J command in
    let same : (q : Outcome) → booked from id J ≡ Some q → q ≡ o = λ q known.
    let later : after from id ≡ Some q = outcome_later s O (Ask ask) past from id q (booked_outcome s O opened past who from id q known) in cc in
    let it = told s who J command at from id pending there o tells (finds after ∙ is) (booked from id J) refl same in
    let seen : sees s (history s O past) (outcome s O past) after (Ask ask) who ≡ Asked command at there ∷ [] = ap (λ b. cond b (Asked command at there ∷ []) []) (eqb_refl who) in (
      ap (λ r. Reply (as_reply r)) it.0,
      ap (booked from id) (history_step s O (Ask ask) past who ∙ ap (with_entries s who J) seen) ∙ it.1,
    )

-- who asks is told
pub asking_tells : AskingTells
asking_tells s O opened past who at o =
    let J : List Event = history s O past who in
    let tells = told_the_outcome s who J at in
    record {
      confirmed = λ from id came. asked s O opened past who (Confirm from id) at from id o (Err Expired) (tells.confirmed from id came)
          (λ outcomes. cond-true (is_forwarded from id J) (outcomes from id) None came);
      rejected = λ from id reason came. asked s O opened past who (Reject from id reason) at from id o (Ok (State from id Pending)) (tells.rejected from id reason came)
          (λ outcomes. cond-true (is_forwarded from id J) (outcomes from id) None came);
      investigated = λ id taken. asked s O opened past who (Investigate id) at who id o (Ok (State who id Pending)) (tells.investigated id taken)
          (λ outcomes. cond-true (is_taken id J) (outcomes who id) None taken);
    }
