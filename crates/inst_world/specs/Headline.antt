-- The headline: what each run of the hub promises of its result. A participant gets the same from
-- any two runs in which it sees the same. A transfer has one outcome (EPC004-16, chapter 4: a
-- confirmation or rejection is decided). Its money is settled or released at most once. The
-- positions sum to the net funding and the untold amounts, which are accepted but not yet booked by
-- the originator. The books fit one another. A promise of this hub.
use Rattle.std.specs.Prelude.{◌≡◌, ℕ, ◌+◌, ◌≤◌, pos, ◌+ℤ◌, true, false, List, [], ◌++◌, reverse}
use Rattle.std.specs.Prelude.{slice_get, take, Option, Some, is_some, Contains}
use Rattle.inst_settings.specs.Settings.{HubSettings, is_participant}
use Rattle.inst_command.specs.declared.outcome.Outcome.{Outcome}
use Rattle.inst_command.specs.declared.outcome.State.TheVariants.{Decided}
use Rattle.inst_command.specs.declared.reply.Answer.{Answer}
use Rattle.inst_command.specs.declared.reply.Answer.TheVariants.{Reply}
use Rattle.inst_command.specs.declared.reply.Reply.TheVariants.{State}
use Rattle.inst_command.specs.declared.step.Step.{Step}
use Rattle.inst_journal.specs.declared.event.Event.{Event}
use Rattle.inst_journal.specs.declared.event.Event.TheVariants.{Taken, Booked}
use Rattle.inst_journal.specs.Booked.{booked}
use Rattle.inst_journal.specs.Covered.{IsNeverOverdrawn}
use Rattle.inst_journal.specs.Money.{reserved, position, available}
use Rattle.inst_journal.specs.Statement.{statement}
use Rattle.inst_journal.specs.Sums.{net, reservation}
use Rattle.inst_model.specs.Fit.{BooksFit}
use Rattle.inst_model.specs.Hub.{view, outcome, history}
use Rattle.inst_model.specs.Interleaving.{IsInterleaving}
use Rattle.inst_model.specs.Locality.{BeginsAlike, decisive, steps_on}
use Rattle.inst_model.specs.Once.{IsSettledOnce}
use Rattle.inst_model.specs.Opening.{Opening, IsOpening, beginning}
use Rattle.inst_model.specs.Trace.{trace, own_answers}
use Rattle.inst_model.specs.Transfer.{Transfer, transfer}
use Rattle.inst_model.specs.Untold.{sum_over_participants, signed_total, if_untold, untold_by}
use Rattle.inst_model.specs.Untold.{untold}

-- The input of a run, in order, and its result: the journal of each participant, and an answer to
-- each step.
pub record Run : Type 0 where
  pub opening : Opening
  pub steps : List Step
  pub journals : ℕ → List Event
  pub answers : List Answer

-- These steps were run since the opening, with this result.
abbrev pub run_of : Opening → List Step → (ℕ → List Event) → List Answer → Run
run_of O steps journals answers =
    record { opening = O; steps = steps; journals = journals; answers = answers }

-- A hub with these settings ran so: its journals are the model's histories, and its answers the
-- model's.
pub record IsRun (s : HubSettings) (run : Run) : Type 0 where
  pub opens : IsOpening s run.opening
  pub fits : IsInterleaving s (reverse run.steps)
  pub journals_are : (p : ℕ) → is_participant s p ≡ true →
      run.journals p ≡ history s run.opening (reverse run.steps) p
  pub nobody_else : (p : ℕ) → is_participant s p ≡ false → run.journals p ≡ []
  pub answers_are : run.answers ≡ trace s run.opening (reverse run.steps)

-- Isolation: in two runs of these steps the participant begins with the same book, and sees the
-- same in the same order: its own commands with their clock readings and what each finds, the
-- transfers delivered to it, and the outcomes it learns.
pub record SeesTheSame (s : HubSettings) (p : ℕ) (O P : Opening) (one other : List Step) : Type 0
  where
    pub same_beginning : beginning O p ≡ beginning P p
    pub same_view : view s O (reverse one) p ≡ view s P (reverse other) p

-- The participant got the same from both runs.
pub record GotTheSame (p : ℕ) (one other : Run) : Type 0 where
  pub same_replies : own_answers p one.steps one.answers ≡ own_answers p other.steps other.answers
  pub same_history : one.journals p ≡ other.journals p
  pub same_position : position (one.journals p) ≡ position (other.journals p)
  pub same_reserved : reserved (one.journals p) ≡ reserved (other.journals p)
  pub same_available : available (one.journals p) ≡ available (other.journals p)
  pub same_statement : statement (one.journals p) ≡ statement (other.journals p)

-- The participant gets the same from this run as from any other in which it sees the same.
abbrev pub IsIsolated : HubSettings → Run → Type 0
IsIsolated s run = (other : Run) → IsRun s other → (p : ℕ) → is_participant s p ≡ true →
    SeesTheSame s p run.opening other.opening run.steps other.steps → GotTheSame p run other

-- The outcome of the transfer after all steps of the run.
abbrev pub run_outcome : HubSettings → Run → ℕ → List ℕ → Option Outcome
run_outcome s run from id = outcome s run.opening (reverse run.steps) from id

-- The outcome of the transfer after the first k steps of the run.
abbrev pub outcome_after : HubSettings → Run → ℕ → ℕ → List ℕ → Option Outcome
outcome_after s run k from id = outcome s run.opening (reverse (take k run.steps)) from id

-- The journal of a participant after the first k steps, as a run of these alone returns it.
abbrev pub journal_after : HubSettings → Run → ℕ → ℕ → List Event
journal_after s run k p = history s run.opening (reverse (take k run.steps)) p

-- A transfer has one outcome.
--
-- - answered: each outcome in an answer is the transfer's at that step
-- - booked_then: each outcome that a journal has booked by step k is the transfer's then
-- - booked_for_good: and the journal still has it in the end
-- - booked_is: each outcome that is booked in the end is the transfer's in the end
-- - for_good: once there is an outcome, it is the same whatever steps follow
pub record HasOneOutcome (s : HubSettings) (run : Run) : Type 0 where
  pub answered : (k from : ℕ) (id : List ℕ) (o : Outcome) →
      slice_get run.answers k ≡ Some (Reply (State from id (Decided o))) →
      outcome_after s run (k + 1) from id ≡ Some o
  pub booked_then : (k p from : ℕ) (id : List ℕ) (o : Outcome) →
      Contains (journal_after s run k p) (Booked from id o) → outcome_after s run k from id ≡ Some o
  pub booked_for_good : (k p from : ℕ) (id : List ℕ) (o : Outcome) → is_participant s p ≡ true →
      Contains (journal_after s run k p) (Booked from id o) →
      Contains (run.journals p) (Booked from id o)
  pub booked_is : (p from : ℕ) (id : List ℕ) (o : Outcome) → is_participant s p ≡ true →
      Contains (run.journals p) (Booked from id o) → run_outcome s run from id ≡ Some o
  pub for_good : (k from : ℕ) (id : List ℕ) (o : Outcome) → outcome_after s run k from id ≡ Some o →
      (more : List Step) →
      outcome s run.opening (reverse (take k run.steps ++ more)) from id ≡ Some o

-- Once: no transfer is booked twice in a history. A taken amount is reserved until it is booked,
-- then debited or free; a forwarded amount is credited exactly if it is booked accepted.
abbrev pub SettlesOnce : HubSettings → Run → Type 0
SettlesOnce s run = (p : ℕ) → is_participant s p ≡ true → IsSettledOnce p (run.journals p)

-- Each outcome is booked by the originator.
abbrev pub AllAreTold : HubSettings → Run → Type 0
AllAreTold s run = (p : ℕ) (id : List ℕ) (o : Outcome) → is_participant s p ≡ true →
    run_outcome s run p id ≡ Some o → is_some (booked p id (run.journals p)) ≡ true

-- Sums: no money is made or lost; untold amounts are still reserved at their originator, in sum and
-- transfer by transfer; and nobody is overdrawn.
pub record AddsUp (s : HubSettings) (run : Run) : Type 0 where
  pub sum : pos (sum_over_participants s (λ p. position (run.journals p)))
      ≡ (signed_total s (λ p.
      net (run.journals p)) +ℤ pos (untold s run.opening (reverse run.steps)))
  pub all_told : AllAreTold s run →
      pos (sum_over_participants s (λ p. position (run.journals p)))
      ≡ signed_total s (λ p. net (run.journals p))
  pub untold_is_reserved : (p : ℕ) → is_participant s p ≡ true →
      untold_by s run.opening (reverse run.steps) p ≤ reserved (run.journals p)
  pub each_untold_is_reserved : (p : ℕ) (id : List ℕ) (to cents stamp : ℕ) →
      Contains (run.journals p) (Taken id to cents stamp) →
      if_untold (run_outcome s run p id) (booked p id (run.journals p)) cents
      ≤ reservation (run.journals p) (Taken id to cents stamp)
  pub never_overdrawn : (p : ℕ) → is_participant s p ≡ true → IsNeverOverdrawn (run.journals p)

-- Fit: a forwarded transfer was sent with the same terms; no two books have different outcomes of a
-- transfer; a transfer booked accepted by its originator is booked accepted by its beneficiary.
abbrev pub BooksOfFit : HubSettings → Run → Type 0
BooksOfFit s run = BooksFit s run.journals

-- Locality: the steps on a transfer alone decide its outcome.
abbrev pub IsLocal : HubSettings → Run → Type 0
IsLocal s run = (other : Run) → IsRun s other → (p : ℕ) (id : List ℕ) (x : Transfer) →
    BeginsAlike run.opening other.opening p id →
    transfer id (run.journals p) ≡ Some x → transfer id (other.journals p) ≡ Some x →
    decisive run.opening p id (steps_on s run.opening (reverse run.steps) p id)
    ≡ decisive other.opening p id (steps_on s other.opening (reverse other.steps) p id) →
    run_outcome s run p id ≡ run_outcome s other p id

-- The whole headline of a run.
--
-- - is_run: its journals are the model's histories, and its answers the model's
-- - isolation: a participant that sees the same in another run gets the same from it
-- - one_outcome, once: a transfer has one outcome; its money is settled or released at most once
-- - sums: the positions sum to the net funding and the untold amounts
-- - fit, locality: the books fit one another; the steps on a transfer alone decide it
pub record KeepsTheHeadline (s : HubSettings) (run : Run) : Type 0 where
  pub is_run : IsRun s run
  pub isolation : IsIsolated s run
  pub one_outcome : HasOneOutcome s run
  pub once : SettlesOnce s run
  pub sums : AddsUp s run
  pub fit : BooksOfFit s run
  pub locality : IsLocal s run
