-- A drill with a script: what is left of the disk and of the file.
use Rattle.std.proofs.Common.{◌≡◌, ◌≢◌, ◌⊎◌, ◌∙◌, ◌+◌, ◌<◌, inl, inr, ℕ, Bool, List, [], ◌∷◌, ◌++◌, reverse, length, slice_index, append-nil, Option, Some, Result, Ok, Err, OnOk, IfErr, IsTrue, ext_get_or, sym, ap, subst, arith}
use Rattle.std.specs.Prelude.{slice_get}
use Rattle.std.specs.List.{AllByRecursion}
use Rattle.std.proofs.lemmas.Bool.{cases_lt}
use Rattle.std.proofs.lemmas.List.{reverse-reverse}
use Rattle.sqlite_disk.specs.Disk.{Holds, Only, Torn}
use Rattle.sqlite_disk.specs.declared.Disk.{Ghosts}
use Rattle.inst_settings.specs.Settings.{HubSettings}
use Rattle.inst_command.specs.declared.step.Step.{Step}
use Rattle.inst_model.specs.Interleaving.{IsInterleaving}
use Rattle.inst_model.specs.Opening.{Opening, First}
use Rattle.inst_agenda.proofs.StepsAfterLine.{one_on}
use Rattle.inst_drill.specs.Drilled.{AreDrilled, DrillOpening, HasDrilledAll}
use Rattle.inst_drill.specs.declared.explaining.DrillResult.{DrillResult}
use Rattle.inst_log.specs.Disks.{HasKeptFaith, HasSameFile, IsOnlyRead}
use Rattle.inst_program.specs.Files.{Files, IfKept, IsAsItWas, change_of, change_on}
use Rattle.inst_program.specs.Program.{Drills}
use Rattle.inst_program.specs.Script.{IsWritten, script_of}
use Rattle.inst_program.specs.declared.drilling.DrillTask.{DrillTask}
use Rattle.inst_program.specs.declared.exit_reason.ExitReason.{ExitReason}
use Rattle.inst_program.specs.inner.Drilling.{CannotDrill, IsScripted, IsUndrilled, IsWithoutAFile}
use Rattle.inst_program.specs.inner.ExitReason.{status_of_ending}
use Rattle.inst_program.specs.inner.Visiting.{IsSameChange, IsVisitedAs}
use Rattle.inst_program.proofs.LogAfterVisit.{all_stay, as_it_was}

-- what is written to an empty file is all of it
holds_all : (bytes new : List ℕ) → Torn 0 (length bytes) [] new → Holds new 0 bytes → new ≡ bytes
holds_all bytes new torn holds =
    let longest = torn.no_longer in
    let within = holds.within in
    let len : length new ≡ length bytes = omega (arith, longest, within) in
    ext_get_or 0 new bytes len λ i low.
    let here : 0 + i ≡ i = omega arith in
    ap (slice_index new) (sym here) ∙ holds.each i (omega (arith, low, len))

holds_whole : (bytes new : List ℕ) → Torn 0 (length bytes) [] new → (0 < length bytes → Holds new 0 bytes) → new ≡ bytes
holds_whole bytes new torn written = elim (cases_lt 0 (length bytes)) [
  | inl some ↦ holds_all bytes new torn (written some)
  | inr none ↦
      let longest = torn.no_longer in
      ext_get_or 0 new bytes (omega (arith, longest, none)) λ i low. absurd (omega (arith, low, longest, none))
]

pub whole_of : (old bytes new : List ℕ) → old ≡ [] → Torn 0 (length bytes) old new → (0 < length bytes → Holds new 0 bytes) → new ≡ bytes
whole_of old bytes new none torn written = holds_whole bytes new (subst (λ (l : List ℕ). Torn 0 (length bytes) l new) none torn) written

fit_onto : (s : HubSettings) (xs L : List Step) → IsInterleaving s xs → IsInterleaving s L → IsInterleaving s (reverse xs ++ L)
fit_onto s [] L first second = second
fit_onto s (x ∷ xs) L first second = subst (IsInterleaving s) (sym (one_on (x ∷ []) xs L)) (fit_onto s xs (x ∷ L) first.1 (first.0, second))

fit_turned : (s : HubSettings) (xs : List Step) → IsInterleaving s (reverse xs) → IsInterleaving s xs
fit_turned s xs fit = subst (IsInterleaving s) (append-nil (reverse (reverse xs)) ∙ reverse-reverse xs) (fit_onto s (reverse xs) [] fit tt)

nothing_first : (x : DrillOpening) → slice_get [] 0 ≡ Some x → ⊥
nothing_first x at = cc

first_is : (y : DrillOpening) (ys : List DrillOpening) (x : DrillOpening) → slice_get (y ∷ ys) 0 ≡ Some x → y ≡ x
first_is y ys x at = cc

first_fits : (s : HubSettings) (done : List DrillOpening) (x : DrillOpening) → AreDrilled s First done → slice_get done 0 ≡ Some x → IsInterleaving s x.steps
first_fits s [] x drilled at = absurd (nothing_first x at)
first_fits s (y ∷ ys) x drilled at = subst (λ (z : DrillOpening). IsInterleaving s z.steps) (first_is y ys x at) (fit_turned s y.steps drilled.1.explained.is_run.fits)

-- what a drill left can be a script
pub steps_fit : (s : HubSettings) (openings : ℕ) (held held' : Option (List ℕ)) (left : DrillResult) → HasDrilledAll s openings held held' left → IsInterleaving left.books.settings left.steps.items
steps_fit s openings held held' left all =
    subst (λ (t : HubSettings). IsInterleaving t left.steps.items) (sym all.settings)
    (subst (IsInterleaving s) all.left_is.steps_are (first_fits s all.done all.left_is.first all.drilled all.left_is.is_first))

-- a script was written to a disk that was found empty, or it failed
pub scripted : {D A : Type 0} (disks : Ghosts D) (asked : DrillTask) (held held' : Option (List ℕ)) (unwritten : Type 0) (old mid new : D) (left : DrillResult) (outcome : Result A ExitReason)
    → HasDrilledAll asked.settings asked.openings held held' left → IsOnlyRead disks old mid → (HasKeptFaith disks mid → disks.seen old ≡ [])
    → OnOk outcome (disks.seen mid ≡ [] → disks.seen new ≡ script_of left.books.settings left.steps.items) → OnOk outcome (Only (disks.seen new) (disks.may_leave new))
    → disks.is_clean new ≡ disks.is_clean mid → IfErr outcome (λ e. status_of_ending e ≡ 3) → IsScripted disks asked held held' unwritten old new outcome
scripted disks asked held held' unwritten old mid new left (Ok x) all read empty written durable clean failed = record {
  done = (
    left,
    all,
    (λ kept.
        let none = empty (subst (λ (b : Bool). IsTrue b) clean kept) in
        record {
          was_empty = none;
          text_is = written (read.left.same ∙ none) ∙ ap (λ (s : HubSettings). script_of s left.steps.items) all.settings;
          durable = durable;
        }),
  );
  refused = tt;
  spared = λ kept some. absurd (some (empty (subst (λ (b : Bool). IsTrue b) clean kept)));
}
scripted disks asked held held' unwritten old mid new left (Err e) all read empty written durable clean failed = record {
  done = tt;
  refused = λ two. absurd (let no_status : 3 ≡ 2 = sym failed ∙ two in omega (arith, no_status));
  spared = λ kept some. absurd (some (empty (subst (λ (b : Bool). IsTrue b) clean kept)));
}

module _ (old new : Files) (name : List ℕ) where
  -- what is left as it was on the disk
  left_in : {D : Type 0} (disks : Ghosts D) (disk disk' : D) → IsVisitedAs disks old new name disk disk' → HasSameFile disks disk disk' → IfKept new (IsAsItWas (change_of old new name))
  left_in disks disk disk' v left is =
      as_it_was (change_on disks disk disk') (change_of old new name) (v.change is) (record { same = left.same; crash = λ file may. left.crash file may })

  written_in : {D : Type 0} (disks : Ghosts D) (disk disk' : D) → IsVisitedAs disks old new name disk disk' → (text : List ℕ) → (HasKeptFaith disks disk' → IsWritten text (change_on disks disk disk')) → IfKept new (IsWritten text (change_of old new name))
  written_in disks disk disk' v text written is =
      let same : IsSameChange (change_on disks disk disk') (change_of old new name) = v.change is in
      let x = written (v.faith is) in
      record {
        was_empty = same.was ∙ x.was_empty;
        text_is = same.now ∙ x.text_is;
        durable = λ file may. x.durable file (same.may file may) ∙ sym same.now;
      }

  pub drills_in : {D A : Type 0} (disks : Ghosts D) (disk disk' : D) (asked : DrillTask) (held held' : Option (List ℕ)) (unwritten : Type 0) (r : Result A ExitReason) → IsVisitedAs disks old new name disk disk'
      → IsScripted disks asked held held' unwritten disk disk' r → OnOk r (Drills asked.settings asked.openings (Some name) held held' old new)
  drills_in disks disk disk' asked held held' unwritten (Err e) v is = tt
  drills_in disks disk disk' asked held held' unwritten (Ok x) v is =
      (is.done.0, is.done.1, (written_in disks disk disk' v (script_of asked.settings is.done.0.steps.items) is.done.2, v.visit.others))

  pub undrilled_in : {D A : Type 0} (disks : Ghosts D) (disk disk' : D) (asked : DrillTask) (held held' : Option (List ℕ)) (unwritten : Type 0) (r : Result A ExitReason) → IsVisitedAs disks old new name disk disk'
      → IsScripted disks asked held held' unwritten disk disk' r → IfErr r (IsUndrilled asked (Some name) unwritten old new)
  undrilled_in disks disk disk' asked held held' unwritten (Ok x) v is = tt
  undrilled_in disks disk disk' asked held held' unwritten (Err e) v is = record {
    refused = λ two.
        let why = is.refused two in
        (why.0, all_stay old new name v.visit.others (left_in disks disk disk' v why.1), cannot why.2);
    failed = λ three. ((λ kept some. left_in disks disk disk' v (is.spared (v.faith kept) (λ none. some (was kept none))) kept), v.visit.others);
  }
    where
      was : IsTrue new.is_clean → disks.seen disk ≡ [] → old.bytes name ≡ []
      was kept none = (v.change kept).was ∙ none

      cannot : CannotDrill asked ⊎ (HasKeptFaith disks disk' → disks.seen disk ≢ []) → CannotDrill asked ⊎ IsWithoutAFile (Some name) old new
      cannot (inl unfit) = inl unfit
      cannot (inr some) = inr (inr (λ kept none. some (v.faith kept) (sym (v.change kept).was ∙ none)))
