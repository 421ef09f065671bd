-- What a drill reports of an opening, by the books that it left. These reports are a choice of this
-- hub.
use Rattle.std.specs.Prelude.{◌≡◌, ◌+◌, ℕ, pos, Bool, true, false, List, [], ◌∷◌, ◌++◌, codes}
use Rattle.std.specs.Fmt.{decimal}
use Rattle.std.specs.List.{count_by}
use Rattle.inst_command.specs.declared.outcome.Outcome.{Outcome}
use Rattle.inst_command.specs.declared.outcome.Outcome.TheVariants.{Accepted, TimedOut}
use Rattle.inst_journal.specs.declared.event.Event.{Event}
use Rattle.inst_journal.specs.declared.event.Event.TheVariants.{Booked}
use Rattle.inst_journal.specs.Money.{position}
use Rattle.inst_journal.specs.Opened.{current}
use Rattle.inst_journal.specs.Sums.{net}
use Rattle.inst_model.specs.Untold.{sum_over_participants, signed_total}
use Rattle.inst_participant.specs.Together.{histories}
use Rattle.inst_close.specs.ClosedHub.{ClosedHub}
use Rattle.inst_drill.specs.declared.report.Report.{Report}

-- True if both outcomes are acceptances, or both are time-outs.
abbrev pub is_same_end : Outcome → Outcome → Bool
is_same_end Accepted Accepted = true
is_same_end TimedOut TimedOut = true
is_same_end _ _ = false

-- True if the event books such an outcome.
abbrev pub books_end : Outcome → Event → Bool
books_end outcome (Booked from id other) = is_same_end outcome other
books_end outcome _ = false

-- How many transfers a history has booked with this outcome since its last opening.
abbrev pub ended : Outcome → List Event → ℕ
ended outcome J = count_by (books_end outcome) (current J)

-- The report is that of these books. Their positions sum to the net funding, no disagreement is
-- reported, and participant 0, the originator, has booked so many transfers as accepted and so many
-- as timed out since the opening. No clause ties the counts of jobs and answers to anything.
pub record IsReportOf (closed : ClosedHub) (report : Report) : Type 0 where
  pub disagree : report.disagree ≡ 0
  pub sum : report.sum
      ≡ sum_over_participants closed.settings (λ p. position (histories closed.books p))
  pub net : pos report.net ≡ signed_total closed.settings (λ p. net (histories closed.books p))
  pub balanced : report.sum ≡ report.net
  pub accepted : report.accepted ≡ ended Accepted (histories closed.books 0)
  pub timed_out : report.timed_out ≡ ended TimedOut (histories closed.books 0)
  pub decided : report.accepted + report.timed_out ≡ report.decided

-- The line of jobs and answers.
abbrev pub calls_text : Report → List ℕ
calls_text r =
    codes "jobs " ++ decimal r.jobs ++ codes " answered " ++ decimal r.answered ++ 10 ∷ []

-- The lines of decided transfers and of disagreements.
abbrev pub outcomes_text : Report → List ℕ
outcomes_text r =
    codes "decided " ++ decimal r.decided ++ 10 ∷ codes "disagree " ++ decimal r.disagree ++ 10 ∷ []

-- The line of net funding and positions.
abbrev pub money_text : Report → List ℕ
money_text r = codes "net " ++ decimal r.net ++ codes " sum " ++ decimal r.sum ++ 10 ∷ []

-- The four lines of an opening.
abbrev pub report_text : Report → List ℕ
report_text r = calls_text r ++ outcomes_text r ++ money_text r

-- The line with the counts of an opening.
abbrev pub ends_text : Report → List ℕ
ends_text r =
    codes "accepted " ++ decimal r.accepted ++ codes " timed_out " ++ decimal r.timed_out ++ 10 ∷ []

-- The four lines of all openings.
abbrev pub reports_text : List Report → List ℕ
reports_text [] = []
reports_text (r ∷ rs) = report_text r ++ reports_text rs
