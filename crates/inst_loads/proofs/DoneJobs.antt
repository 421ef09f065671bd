-- Jobs that are done, gathered one by one.
use Rattle.std.proofs.Common.{◌≡◌, ℕ, zero, suc, List, [], ◌∷◌, ◌++◌, Some, Result, Ok, sym, refl, ap, subst, ◌∙◌, arith, append_assoc}
use Rattle.std.specs.Prelude.{map, slice_get}
use Rattle.std.proofs.lemmas.List.{append-nil}
use Rattle.std.proofs.lemmas.List.Sums.{sum_by-cons}
use Rattle.inst_hub.specs.declared.hub.Hub.{Hub}
use Rattle.inst_hub.specs.Calls.{IsTellerOf}
use Rattle.inst_row.specs.Seated.{view_of}
use Rattle.inst_loads.specs.declared.flaw.Failure.{Failure}
use Rattle.inst_loads.specs.declared.hub.done.Done.{Done}
use Rattle.inst_loads.specs.declared.hub.job.HubJob.{HubJob}
use Rattle.inst_loads.specs.Done.{AllAreDone}
use Rattle.inst_loads.specs.Jobs.{AreJobsOf, AreStill}

map_more : {X Y : Type 0} (f : X → Y) (xs : List X) (x : X) → map f (xs ++ x ∷ []) ≡ map f xs ++ f x ∷ []
map_more f [] x = refl
map_more {X} {Y} f (y ∷ ys) x = ap (λ (l : List Y). f y ∷ l) (map_more f ys x)

abbrev Results : Type 0 → Type 0
Results T = List (Result (Done T) Failure)

first_is : (xs : List HubJob) (x y : HubJob) → slice_get (x ∷ xs) 0 ≡ Some y → x ≡ y
first_is xs x y e = cc

nothing : (j : ℕ) (u : HubJob) → slice_get [] j ≡ Some u → ⊥
nothing j u e = cc

module _ {T : Type 0} where
  -- so far the results are those of these, and these are left
  pub done_more : (ds : List (Done T)) (d : Done T) (r : Result (Done T) Failure) (all rest after : Results T) → all ≡ map Ok ds ++ rest → rest ≡ r ∷ after → r ≡ Ok d → all ≡ map Ok (ds ++ d ∷ []) ++ after
  done_more ds d r all rest after e is ok =
      let mine : Results T = map Ok ds in
      e ∙ (ap (λ (l : Results T). mine ++ l) (is ∙ ap (λ (x : Result (Done T) Failure). x ∷ after) ok)
      ∙ (sym (append_assoc mine (Ok d ∷ []) after) ∙ ap (λ (l : Results T). l ++ after) (sym (map_more Ok ds d))))

  pub jobs_more : (ds : List (Done T)) (d : Done T) (jobs more : List HubJob) → jobs ≡ map (λ x. x.job) ds → more ≡ jobs ++ d.job ∷ [] → more ≡ map (λ x. x.job) (ds ++ d ∷ [])
  jobs_more ds d jobs more are is = is ∙ (ap (λ (l : List HubJob). l ++ d.job ∷ []) are ∙ sym (map_more (λ (x : Done T). x.job) ds d))

  all_still : (h : Hub) (jobs : List HubJob) (ds : List (Done T)) → AllAreDone h jobs (map Ok ds) → AreStill h jobs (map (λ x. x.job) ds)
  all_still h [] [] all = ((λ i job at. absurd (nothing i job at)), refl)
  all_still h [] (d ∷ ds) all = let e = all.enough in absurd (omega arith)
  all_still h (job ∷ jobs) [] all = let e = all.enough in absurd (omega arith)
  all_still h (job ∷ jobs) (d ∷ ds) all =
      let one = all.each 0 job (Ok d) refl refl in
      let rest = all_still h jobs ds record { enough = (let e = all.enough in omega arith); each = λ i j r at at'. all.each (suc i) j r at at' } in
      let e = rest.1 in let f = one.1 in
      let a = sum_by-cons (λ (x : HubJob). (view_of x.teller.seat).parts) d.job (map (λ (x : Done T). x.job) ds) in
      let b = sum_by-cons (λ (x : HubJob). (view_of x.teller.seat).parts) job jobs in (
        these one.0 rest.0,
        omega (arith, e, f, a, b),
      )
    where
      these : IsTellerOf h d.job.teller → AreJobsOf h (map (λ x. x.job) ds) → AreJobsOf h (d.job ∷ map (λ x. x.job) ds)
      these mine others zero j at = subst (λ (x : HubJob). IsTellerOf h x.teller) (first_is (map (λ (x : Done T). x.job) ds) d.job j at) mine
      these mine others (suc i) j at = others i j at

  pub gathered : (h : Hub) (first jobs : List HubJob) (ds : List (Done T)) (all rest : Results T) → all ≡ map Ok ds ++ rest → rest ≡ [] → jobs ≡ map (λ x. x.job) ds → AllAreDone h first all → AreStill h first jobs
  gathered h first jobs ds all rest e none are done =
      let mine : Results T = map Ok ds in
      let whole : all ≡ map Ok ds = e ∙ (ap (λ (l : Results T). mine ++ l) none ∙ append-nil mine) in
      subst (AreStill h first) (sym are) (all_still h first ds (subst (AllAreDone h first) whole done))
