-- What a drill has done: openings of one hub, each from the books of the one before. The books of
-- each opening are those of a run in one thread, so all that is proved of runs holds of these
-- books. Drills are a choice of this hub.
use Rattle.std.specs.Prelude.{◌≡◌, ◌⊎◌, ℕ, ◌<◌, List, [], ◌∷◌, Option, Some, None, length, map}
use Rattle.std.specs.Prelude.{slice_get}
use Rattle.std.specs.Io.KnownBytes.{Appends}
use Rattle.inst_base.specs.declared.fault.Fault.TheVariants.{BadSettings, Memory, WriteFault}
use Rattle.inst_settings.specs.Settings.{HubSettings}
use Rattle.inst_command.specs.declared.step.Step.{Step}
use Rattle.inst_model.specs.Opening.{Opening, First, FromBooks}
use Rattle.inst_order.specs.Order.{ExplainsBooks}
use Rattle.inst_participant.specs.Together.{histories}
use Rattle.inst_close.specs.ClosedHub.{ClosedHub}
use Rattle.inst_close.specs.Closing.{HaveOpened}
use Rattle.inst_drill.specs.declared.report.Report.{Report}
use Rattle.inst_drill.specs.declared.explaining.DrillResult.{DrillResult}
use Rattle.inst_drill.specs.declared.error.DrillError.{DrillError}
use Rattle.inst_drill.specs.declared.error.DrillError.TheVariants as error
use Rattle.inst_drill.specs.Report.{IsReportOf, reports_text}

-- One opening: what it began from, the books that it left, steps that explain them, and its report.
pub record DrillOpening : Type 0 where
  pub from : Opening
  pub closed : ClosedHub
  pub steps : List Step
  pub report : Report

-- An opening with these parts.
abbrev pub drill_opening : Opening → ClosedHub → List Step → Report → DrillOpening
drill_opening from closed steps report =
    record { from = from; closed = closed; steps = steps; report = report }

-- One opening was drilled.
-- - explained: a hub in one thread that runs the steps leaves the same books, and that run keeps
-- all that is proved of runs.
pub record IsDrilled (s : HubSettings) (x : DrillOpening) : Type 0 where
  pub settings : x.closed.settings ≡ s
  pub opened : HaveOpened x.from x.closed
  pub explained : ExplainsBooks s x.from x.steps (histories x.closed.books)
  pub report : IsReportOf x.closed x.report

-- What the opening after these begins from, if they began from `O`.
abbrev pub opening_after_drill : Opening → List DrillOpening → Opening
opening_after_drill O [] = O
opening_after_drill O (x ∷ xs) = opening_after_drill (FromBooks (histories x.closed.books)) xs

-- Each opening is from the books of the one before, and the first is from `O`.
abbrev pub AreDrilled : HubSettings → Opening → List DrillOpening → Type 0
AreDrilled s O [] = Unit {0}
AreDrilled s O (x ∷ xs) =
    (x.from ≡ O) × IsDrilled s x × AreDrilled s (FromBooks (histories x.closed.books)) xs

-- The last of the openings.
abbrev pub last_of : List DrillOpening → Option DrillOpening
last_of [] = None
last_of (x ∷ []) = Some x
last_of (x ∷ y ∷ xs) = last_of (y ∷ xs)

-- The last opening left these books, and these steps explain those of the first.
pub record IsLastBooks (done : List DrillOpening) (books : ClosedHub) (steps : List Step) : Type 0
  where
    pub last : DrillOpening
    pub is_last : last_of done ≡ Some last
    pub books_are : last.closed ≡ books
    pub first : DrillOpening
    pub is_first : slice_get done 0 ≡ Some first
    pub steps_are : first.steps ≡ steps

-- What is written of openings.
abbrev pub openings_text : List DrillOpening → List ℕ
openings_text done = reports_text (map (λ x. x.report) done)

-- So many openings were drilled, the first one empty; this is what they left, and the reports were
-- written.
pub record HasDrilledAll (s : HubSettings) (openings : ℕ) (held held' : Option (List ℕ))
    (left : DrillResult) : Type 0 where
  pub done : List DrillOpening
  pub counted : length done ≡ openings
  pub drilled : AreDrilled s First done
  pub settings : left.books.settings ≡ s
  pub left_is : IsLastBooks done left.books left.steps.items
  pub written : Appends held held' (openings_text done)

-- Fewer openings were drilled, and their reports were written.
pub record HasDrilledFewer (s : HubSettings) (openings : ℕ) (held held' : Option (List ℕ)) : Type 0
  where
    pub done : List DrillOpening
    pub fewer : length done < openings
    pub drilled : AreDrilled s First done
    pub written : Appends held held' (openings_text done)

-- The errors that end a drill.
abbrev pub EndsADrill : DrillError → Type 0
EndsADrill (error.Fault fault) = (fault ≡ BadSettings) ⊎ ((fault ≡ Memory) ⊎ (fault ≡ WriteFault))
EndsADrill error.NoInterleaving = Unit {0}
