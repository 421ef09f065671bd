-- What is left where the words' task is done, and where it ends otherwise.
use Rattle.std.proofs.Common.{◌≡◌, ◌⊎◌, inl, inr, ℕ, List, Option, Some, None, Result, Ok, Err, IfErr, OnErr, refl}
use Rattle.inst_base.specs.declared.fault.Fault.{Fault}
use Rattle.inst_base.specs.declared.fault.Fault.TheVariants.{BadSettings, Memory, WriteFault}
use Rattle.inst_settings.specs.Settings.{HubSettings}
use Rattle.inst_settings.specs.Lawful.{IsSettings}
use Rattle.inst_lines.specs.declared.mode.Mode.{Mode}
use Rattle.inst_options.specs.Options.Task.{Drill, Check}
use Rattle.inst_options.specs.Asking.{AreChosen, AreWhole, AskForTheAudit, AskForTheLog, AskToExplain, GiveTheLog, NameTheScript}
use Rattle.inst_options.specs.declared.invocation.LogOptions.{LogOptions}
use Rattle.inst_logged.specs.Streams.{Streams}
use Rattle.inst_program.specs.Files.{Files, IfKept, Stay}
use Rattle.inst_program.specs.Keeping.{IsGoodLog, IsUncarried, IsUntaken, KeptRun, NextAsked, SparesBoth, kept_run}
use Rattle.inst_program.proofs.LogAfterVisit.{all_stay}
use Rattle.inst_program.specs.Program.{AskForADrill, AskForAKeptRun, AskForNext, Checks, Done, Drills, Refusal, task_of}
use Rattle.inst_program.specs.Program.Done.{Answered, Checked, Drilled, Kept}
use Rattle.inst_program.specs.Program.Failed.{AtLines, Auditing, Carrying, Drilling, Explaining, Keeping, Showing}
use Rattle.inst_program.specs.Program.Refusal.{InUse, Uncarried, Unfit, Unnamed, Unaudited, Unscripted, Unshown, Untaken}
use Rattle.inst_program.specs.inner.ExitReason.{status_of_ending, AreLinesAnswered, IsUnanswered, IsUnchecked, IsUndone, IsUnexplained}
use Rattle.inst_program.specs.inner.Drilling.{IsUndrilled, IsWithoutAFile}
use Rattle.inst_program.specs.declared.drilling.DrillTask.{DrillTask}
use Rattle.inst_drill.specs.Plan.{MayDrill}
use Rattle.inst_program.specs.declared.exit_reason.ExitReason.{ExitReason}
use Rattle.inst_program.specs.declared.exit_reason.ExitReason.TheVariants as ending
use Rattle.inst_program.proofs.RefusedWords.{undrillable}
use Rattle.inst_program.proofs.Statuses.{no_settings, only_settings, two_is_not_three}

module _ (words : List (List ℕ)) (t : Streams) (old new : Files) where
  -- lines were answered, with a log or without
  pub answered : (mode : Mode) (s : HubSettings) (log : Option LogOptions) → IsSettings s → AreWhole words → AreChosen words (task_of mode) s → GiveTheLog words log →
      AreLinesAnswered mode s log t old new → Done words t old new
  answered mode s None lawful whole chosen given is =
      Answered (record { mode = mode; settings = s; lawful = lawful; whole = whole; chosen = chosen; unkept = given; answers = is.0 }) is.1
  answered mode s (Some log) lawful whole chosen given keeps =
      Kept (record { run = kept_run mode s log; asked = record { lawful = lawful; whole = whole; chosen = chosen; log = given }; keeps = keeps.0; others = keeps.1 })

  abbrev asks_to_drill : (s : HubSettings) (transfers openings : ℕ) (script : Option (List ℕ)) → IsSettings s → AreWhole words → AreChosen words (Drill transfers openings) s → NameTheScript words script → AskForADrill words
  asks_to_drill s transfers openings script lawful whole chosen named =
      record { settings = s; lawful = lawful; whole = whole; transfers = transfers; openings = openings; chosen = chosen; script = script; named = named }

  -- a drill is done
  pub drilled : (s : HubSettings) (transfers openings : ℕ) (script : Option (List ℕ)) → IsSettings s → AreWhole words → AreChosen words (Drill transfers openings) s → NameTheScript words script →
      t.unread → Drills s openings script t.held t.held' old new → Done words t old new
  drilled s transfers openings script lawful whole chosen named still told =
      Drilled still (asks_to_drill s transfers openings script lawful whole chosen named, told)

  -- lines were checked
  pub checked : (s : HubSettings) → IsSettings s → AreWhole words → AreChosen words Check s → Stay old new → Checks s t → Done words t old new
  checked s lawful whole chosen stay checks = Checked (record { settings = s; lawful = lawful; whole = whole; chosen = chosen; checks = checks }) stay

  -- it wasn't told what a log has
  pub unshown_err : {A : Type 0} (name : List ℕ) (r : Result A ExitReason) → AskForTheLog words name → t.unread → Stay old new
      → IfErr r (λ e. status_of_ending e ≡ 2 → t.unwritten × IfKept new (¬ (IsGoodLog (old.bytes name)))) → IfErr r (λ e. IsUndone words t old new (status_of_ending e))
  unshown_err name (Ok x) asked still stay is = tt
  unshown_err name (Err e) asked still stay is = record {
    refused = λ two. let why = is two in record { unread = still; unwritten = why.0; why = Unshown name asked why.1 stay };
    failed = λ three. Showing still (name, asked) stay;
  }

  -- the books of a log weren't carried over
  pub uncarried_err : {A : Type 0} (next : NextAsked) (r : Result A ExitReason) → AskForNext words next → t.unread → t.unwritten
      → OnErr r (SparesBoth next.from next.to old new) → IfErr r (λ e. status_of_ending e ≡ 2 → IsUncarried next old new) → IfErr r (λ e. IsUndone words t old new (status_of_ending e))
  uncarried_err next (Ok x) asked still same spares why = tt
  uncarried_err next (Err e) asked still same spares why = record {
    refused = λ two. record { unread = still; unwritten = same; why = Uncarried next asked (why two) spares };
    failed = λ three. Carrying still same (next, asked, spares);
  }

  -- logs weren't audited
  pub unaudited_err : {A : Type 0} (names : List (List ℕ)) (r : Result A ExitReason) → AskForTheAudit words names → t.unread → Stay old new
      → IfErr r (λ e. status_of_ending e ≡ 2 → t.unwritten) → IfErr r (λ e. IsUndone words t old new (status_of_ending e))
  unaudited_err names (Ok x) asked still stay same = tt
  unaudited_err names (Err e) asked still stay same = record {
    refused = λ two. record { unread = still; unwritten = same two; why = Unaudited (names, asked) stay };
    failed = λ three. Auditing still (names, asked) stay;
  }

  -- a log wasn't taken
  untaken : (run : KeptRun) → AskForAKeptRun words run → Stay old new → new.in_use run.name ⊎ IfKept new (IsUntaken run (old.bytes run.name)) → Refusal words old new
  untaken run asked stay (inl used) = InUse run asked used stay
  untaken run asked stay (inr bad) = Untaken run asked bad stay

  -- lines weren't answered
  unanswered : (mode : Mode) (s : HubSettings) (log : Option LogOptions) (e : ExitReason) → IsSettings s → AreWhole words → AreChosen words (task_of mode) s → GiveTheLog words log →
      IsUnanswered mode s log t old new e → IsUndone words t old new (status_of_ending e)
  unanswered mode s None (ending.Fault fault) lawful whole chosen given is = record {
    refused = λ two. absurd (no_settings _ _ _ _ is.0.bytes fault (only_settings fault two) is.0.leaves);
    failed = λ three. AtLines fault (inl (record { mode = mode; settings = s; lawful = lawful; whole = whole; chosen = chosen; unkept = given; after = is.0 })) is.1;
  }
  unanswered mode s None (ending.Log fault) lawful whole chosen given is = absurd is
  unanswered mode s None ending.Unexplained lawful whole chosen given is = absurd is
  unanswered mode s None ending.NoInterleaving lawful whole chosen given is = absurd is
  unanswered mode s None ending.ScriptNotEmpty lawful whole chosen given is = absurd is
  unanswered mode s None (ending.Unfit option) lawful whole chosen given is = absurd is
  unanswered mode s None ending.PendingTransfer lawful whole chosen given is = absurd is
  unanswered mode s None ending.BrokenChain lawful whole chosen given is = absurd is
  unanswered mode s (Some log) e lawful whole chosen given is =
      let run = kept_run mode s log in
      let asked : AskForAKeptRun words run = record { lawful = lawful; whole = whole; chosen = chosen; log = given } in
      record {
        refused = λ two.
            let r = is.0.refused two in
            record { unread = r.0; unwritten = r.1; why = untaken run asked (all_stay old new log.path.now is.1 r.2) r.3 };
        failed = λ three. Keeping (record { run = run; asked = asked; front = is.0.front; others = is.1 });
      }

  pub unanswered_err : {A : Type 0} (mode : Mode) (s : HubSettings) (log : Option LogOptions) (r : Result A ExitReason) → IsSettings s → AreWhole words → AreChosen words (task_of mode) s → GiveTheLog words log →
      IfErr r (IsUnanswered mode s log t old new) → IfErr r (λ e. IsUndone words t old new (status_of_ending e))
  unanswered_err mode s log (Ok x) lawful whole chosen given is = tt
  unanswered_err mode s log (Err e) lawful whole chosen given is = unanswered mode s log e lawful whole chosen given is

  -- a drill that no hub of these settings can do, or that failed
  no_failure : (fault : Fault) → fault ≡ BadSettings → (fault ≡ Memory) ⊎ (fault ≡ WriteFault) → ⊥
  no_failure fault bad (inl memory) = cc (memory, bad)
  no_failure fault bad (inr write) = cc (write, bad)

  undrilled_for : (s : HubSettings) (transfers openings : ℕ) (script : Option (List ℕ)) → IsSettings s → AreWhole words → AreChosen words (Drill transfers openings) s → NameTheScript words script →
      Stay old new → ¬ (MayDrill s transfers openings) ⊎ IsWithoutAFile script old new → Refusal words old new
  undrilled_for s transfers openings script lawful whole chosen named stay (inl unfit) = Unfit (undrillable words s transfers openings whole chosen unfit) stay
  undrilled_for s transfers openings None lawful whole chosen named stay (inr never) = absurd never
  undrilled_for s transfers openings (Some name) lawful whole chosen named stay (inr cannot) =
      Unscripted (asks_to_drill s transfers openings (Some name) lawful whole chosen named) name refl cannot stay

  pub undrilled_err : {A : Type 0} (asked : DrillTask) (script : Option (List ℕ)) (r : Result A ExitReason) → IsSettings asked.settings → AreWhole words →
      AreChosen words (Drill asked.transfers asked.openings) asked.settings → NameTheScript words script → t.unread → IfErr r (IsUndrilled asked script t.unwritten old new) → IfErr r (λ e. IsUndone words t old new (status_of_ending e))
  undrilled_err asked script (Ok x) lawful whole chosen named still after = tt
  undrilled_err asked script (Err e) lawful whole chosen named still after = record {
    refused = λ two.
        let why = after.refused two in
        record { unread = still; unwritten = why.0; why = undrilled_for asked.settings asked.transfers asked.openings script lawful whole chosen named why.1 why.2 };
    failed = λ three. Drilling still (asks_to_drill asked.settings asked.transfers asked.openings script lawful whole chosen named, after.failed three);
  }

  -- a fault wasn't explained
  pub unexplained_err : {A : Type 0} (word : List ℕ) (r : Result A ExitReason) → AskToExplain words word → t.unread → Stay old new → IfErr r (IsUnexplained word t.unwritten)
      → IfErr r (λ e. IsUndone words t old new (status_of_ending e))
  unexplained_err word (Ok x) asked still stay is = tt
  unexplained_err word (Err (ending.Fault fault)) asked still stay is = record {
    refused = λ two. absurd (no_failure fault (only_settings fault two) (inr is.0));
    failed = λ three. Explaining still (word, asked, is.1) stay;
  }
  unexplained_err word (Err (ending.Log fault)) asked still stay is = absurd is
  unexplained_err word (Err ending.Unexplained) asked still stay is = record {
    refused = λ two. record { unread = still; unwritten = is.0; why = Unnamed (word, asked, is.1) stay };
    failed = λ three. absurd (two_is_not_three three);
  }
  unexplained_err word (Err ending.NoInterleaving) asked still stay is = absurd is
  unexplained_err word (Err ending.ScriptNotEmpty) asked still stay is = absurd is
  unexplained_err word (Err (ending.Unfit option)) asked still stay is = absurd is
  unexplained_err word (Err ending.PendingTransfer) asked still stay is = absurd is
  unexplained_err word (Err ending.BrokenChain) asked still stay is = absurd is

  pub unchecked_err : {A : Type 0} (s : HubSettings) (r : Result A ExitReason) → IsSettings s → AreWhole words → AreChosen words Check s → Stay old new →
      IfErr r (IsUnchecked s t.left t.held t.held') → IfErr r (λ e. IsUndone words t old new (status_of_ending e))
  unchecked_err s (Ok x) lawful whole chosen stay is = tt
  unchecked_err s (Err (ending.Fault fault)) lawful whole chosen stay is = record {
    refused = λ two. absurd (is.0 (only_settings fault two));
    failed = λ three. AtLines fault (inr (is.0, record { settings = s; lawful = lawful; whole = whole; chosen = chosen; part = is.1 })) stay;
  }
  unchecked_err s (Err (ending.Log fault)) lawful whole chosen stay is = absurd is
  unchecked_err s (Err ending.Unexplained) lawful whole chosen stay is = absurd is
  unchecked_err s (Err ending.NoInterleaving) lawful whole chosen stay is = absurd is
  unchecked_err s (Err ending.ScriptNotEmpty) lawful whole chosen stay is = absurd is
  unchecked_err s (Err (ending.Unfit option)) lawful whole chosen stay is = absurd is
  unchecked_err s (Err ending.PendingTransfer) lawful whole chosen stay is = absurd is
  unchecked_err s (Err ending.BrokenChain) lawful whole chosen stay is = absurd is
