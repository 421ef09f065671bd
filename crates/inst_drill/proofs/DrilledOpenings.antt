-- What was drilled and written of the openings until now.
use Rattle.std.proofs.Common.{◌≡◌, ◌≢◌, ℕ, ◌+◌, suc, List, [], ◌∷◌, ◌++◌, length, length-append, append_assoc, append-nil, Option, Some, None, refl, sym, ap, ◌∙◌, subst, arith}
use Rattle.std.specs.Prelude.{slice_get}
use Rattle.std.specs.Io.KnownBytes.{Appends}
use Rattle.std.proofs.lemmas.Option.{none-some}
use Rattle.inst_settings.specs.Settings.{HubSettings}
use Rattle.inst_command.specs.declared.step.Step.{Step}
use Rattle.inst_model.specs.Opening.{Opening, First, FromBooks}
use Rattle.inst_participant.specs.Together.{histories}
use Rattle.inst_close.specs.ClosedHub.{ClosedHub}
use Rattle.inst_drill.specs.declared.report.Report.{Report}
use Rattle.inst_drill.specs.inner.Chain.{IsAfter, AreAfter, opening_of}
use Rattle.inst_drill.specs.Drilled.{DrillOpening, IsDrilled, AreDrilled, IsLastBooks, drill_opening, last_of, opening_after_drill, openings_text}
use Rattle.inst_drill.specs.Report.{report_text}

-- the books, if there are some, are those of the last opening, and the steps those of the first
abbrev pub AreLeft : List DrillOpening → Option ClosedHub → List Step → Type 0
AreLeft done None steps = done ≡ []
AreLeft done (Some closed) steps = IsLastBooks done closed steps

-- n openings were drilled and reported, and this is what the last one left
pub record DrilledSoFar (s : HubSettings) (held held' : Option (List ℕ)) (n : ℕ) (books : Option ClosedHub) (steps : List Step) : Type 0 where
  pub done : List DrillOpening
  pub counted : length done ≡ n
  pub drilled : AreDrilled s First done
  pub next : opening_after_drill First done ≡ opening_of books
  pub left : AreLeft done books steps
  pub written : Appends held held' (openings_text done)
  pub after : AreAfter s n books
  pub begun : books ≡ None → n ≡ 0

appends_nothing : (held : Option (List ℕ)) → Appends held held []
appends_nothing None = tt
appends_nothing (Some xs) = sym (append-nil xs)

appends_both : (x y z : Option (List ℕ)) (p q : List ℕ) → Appends x y p → Appends y z q → Appends x z (p ++ q)
appends_both None y z p q h k = tt
appends_both (Some x) None z p q h k = absurd h
appends_both (Some x) (Some y) None p q h k = absurd k
appends_both (Some x) (Some y) (Some z) p q h k = k ∙ (ap (λ (t : List ℕ). t ++ q) h ∙ append_assoc x p q)

texts_push : (done : List DrillOpening) (x : DrillOpening) → openings_text (done ++ x ∷ []) ≡ openings_text done ++ report_text x.report
texts_push [] x = append-nil (report_text x.report)
texts_push (y ∷ done) x = ap (λ (t : List ℕ). report_text y.report ++ t) (texts_push done x) ∙ sym (append_assoc (report_text y.report) (openings_text done) (report_text x.report))

drilled_push : (s : HubSettings) (O : Opening) (done : List DrillOpening) (x : DrillOpening) → AreDrilled s O done → x.from ≡ opening_after_drill O done → IsDrilled s x → AreDrilled s O (done ++ x ∷ [])
drilled_push s O [] x all from is = (from, is, tt)
drilled_push s O (y ∷ done) x all from is = (all.0, all.1, drilled_push s (FromBooks (histories y.closed.books)) done x all.2 from is)

next_push : (O : Opening) (done : List DrillOpening) (x : DrillOpening) → opening_after_drill O (done ++ x ∷ []) ≡ FromBooks (histories x.closed.books)
next_push O [] x = refl
next_push O (y ∷ done) x = next_push (FromBooks (histories y.closed.books)) done x

last_push : (done : List DrillOpening) (x : DrillOpening) → last_of (done ++ x ∷ []) ≡ Some x
last_push [] x = refl
last_push (y ∷ []) x = refl
last_push (y ∷ z ∷ done) x = last_push (z ∷ done) x

pub none_drilled : (s : HubSettings) (held : Option (List ℕ)) (steps : List Step) → DrilledSoFar s held held 0 None steps
none_drilled s held steps = record { done = []; counted = refl; drilled = tt; next = refl; left = refl; written = appends_nothing held; after = tt; begun = λ e. refl }

first_push : (done : List DrillOpening) (x y : DrillOpening) → slice_get done 0 ≡ Some y → slice_get (done ++ x ∷ []) 0 ≡ Some y
first_push [] x y is = absurd (cc)
first_push (z ∷ done) x y is = is

-- what is left after one opening more
left_after : (done : List DrillOpening) (books : Option ClosedHub) (before steps : List Step) (x : DrillOpening) (n : ℕ) → AreLeft done books before → length done ≡ n
    → (n ≡ 0 → steps ≡ x.steps) → (n ≢ 0 → steps ≡ before) → IsLastBooks (done ++ x ∷ []) x.closed steps
left_after [] books before steps x n left counted first later = record {
  last = x;
  is_last = refl;
  books_are = refl;
  first = x;
  is_first = refl;
  steps_are = sym (first (sym counted));
}
left_after (y ∷ done) None before steps x n left counted first later = absurd (cc)
left_after (y ∷ done) (Some closed) before steps x n left counted first later = record {
  last = x;
  is_last = last_push (y ∷ done) x;
  books_are = refl;
  first = left.first;
  is_first = first_push (y ∷ done) x left.first left.is_first;
  steps_are = left.steps_are ∙ sym (later (λ none. let one : suc (length done) ≡ 0 = counted ∙ none in omega (arith, one)));
}

pub one_drilled : (s : HubSettings) (held middle held' : Option (List ℕ)) (n : ℕ) (books : Option ClosedHub) (before_steps : List Step) (closed : ClosedHub) (steps kept : List Step) (r : Report)
    → DrilledSoFar s held middle n books before_steps → IsDrilled s (drill_opening (opening_of books) closed steps r) → Appends middle held' (report_text r) → IsAfter s (n + 1) closed
    → (n ≡ 0 → kept ≡ steps) → (n ≢ 0 → kept ≡ before_steps) → DrilledSoFar s held held' (n + 1) (Some closed) kept
one_drilled s held middle held' n books before_steps closed steps kept r before is written so first later =
    let x : DrillOpening = drill_opening (opening_of books) closed steps r in
    record {
      done = before.done ++ x ∷ [];
      counted = length-append before.done (x ∷ []) ∙ ap (λ (k : ℕ). k + 1) before.counted;
      drilled = drilled_push s First before.done x before.drilled (sym before.next) is;
      next = next_push First before.done x;
      left = left_after before.done books before_steps kept x n before.left before.counted first later;
      written = subst (λ (t : List ℕ). Appends held held' t) (sym (texts_push before.done x)) (appends_both held middle held' (openings_text before.done) (report_text r) before.written written);
      after = so;
      begun = λ e. absurd (none-some closed (sym e));
    }
