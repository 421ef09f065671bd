-- The jobs of a load: made one by one, gone over one by one, and the tellers that they hand back.
use Rattle.std.proofs.Common.{◌≡◌, ◌<◌, ◌+◌, arith, get_or, zero, suc, ℕ, List, [], ◌∷◌, ◌++◌, length, append_assoc, Some, ap, ◌∙◌, sym, subst, take, ⊎_elim, inl, inr, set, refl}
use Rattle.std.specs.Prelude.{slice_get, map}
use Rattle.std.proofs.lemmas.List.Sums.{sum_by-cons, sum_by_push}
use Rattle.std.proofs.lemmas.Option.{slice_get-get_or}
use Rattle.inst_base.proofs.Lists.{snoc_cases, set_cases}
use Rattle.inst_row.specs.Seated.{view_of}
use Rattle.inst_hub.specs.declared.hub.Hub.{Hub}
use Rattle.inst_hub.specs.declared.teller.Teller.{Teller}
use Rattle.inst_hub.specs.Calls.{IsTellerOf, AreOf}
use Rattle.inst_hub.specs.Opening.{row_parts}
use Rattle.inst_loads.specs.declared.hub.job.HubJob.{HubJob}
use Rattle.inst_loads.specs.Jobs.{AreJobsOf, AreStill, HaveAll, IsStill, parts_of_jobs, parts_of_one}
use Rattle.inst_loads.specs.Tellers.{AreAllOf}
use Rattle.inst_loads.proofs.Tellers.{same_sum}

at_seam : {X : Type 0} (xs : List X) (x : X) (ys : List X) → slice_get (xs ++ x ∷ ys) (length xs) ≡ Some x
at_seam [] x ys = refl
at_seam (y ∷ xs) x ys = at_seam xs x ys

pub next_left : {X : Type 0} (before rest after all : List X) (x : X) → before ++ rest ≡ all → rest ≡ x ∷ after → (before ++ x ∷ []) ++ after ≡ all
next_left {X} before rest after all x e is = append_assoc before (x ∷ []) after ∙ (ap (λ (l : List X). before ++ l) (sym is) ∙ e)

next_at : {X : Type 0} (before rest after all : List X) (x : X) → before ++ rest ≡ all → rest ≡ x ∷ after → slice_get all (length before) ≡ Some x
next_at {X} before rest after all x e is =
    ap (λ (l : List X). slice_get l (length before)) (sym (ap (λ (l : List X). before ++ l) (sym is) ∙ e)) ∙ at_seam before x after

pub next_is_of : (h : Hub) (before rest after all : List Teller) (t : Teller) → AreOf h all → before ++ rest ≡ all → rest ≡ t ∷ after → IsTellerOf h t
next_is_of h before rest after all t are e is = are (length before) t (next_at before rest after all t e is)

pub one_job : (h : Hub) (jobs : List HubJob) (job : HubJob) → AreJobsOf h jobs → IsTellerOf h job.teller → AreJobsOf h (jobs ++ job ∷ [])
one_job h jobs job are one i other at = ⊎_elim
    (λ old. are i other old)
    (λ last. subst (λ (j : HubJob). IsTellerOf h j.teller) last.1 one)
    (snoc_cases jobs job other i at)

abbrev part : Teller → ℕ
part t = (view_of t.seat).parts

abbrev part_of_job : HubJob → ℕ
part_of_job job = (view_of job.teller.seat).parts

-- the last teller has the parts that the others lack
pub last_parts : (all rest : List Teller) (t : Teller) → all ≡ rest ++ t ∷ [] → row_parts rest + parts_of_one t ≡ row_parts all
last_parts all rest t is = sym (ap row_parts is ∙ sum_by_push part rest t)

-- a job more has the parts of the next teller
pub more_parts : (jobs more : List HubJob) (job : HubJob) (rest after : List Teller) (all : ℕ) → parts_of_jobs jobs + row_parts rest ≡ all → more ≡ jobs ++ job ∷ [] → rest ≡ job.teller ∷ after
    → parts_of_jobs more + row_parts after ≡ all
more_parts jobs more job rest after all e items is =
    let a = ap parts_of_jobs items ∙ sum_by_push part_of_job jobs job in
    let b = ap row_parts is ∙ sum_by-cons part job.teller after in omega (arith, e, a, b)

pub no_more_parts : (jobs : ℕ) (rest : List Teller) (all : ℕ) → jobs + row_parts rest ≡ all → rest ≡ [] → jobs ≡ all
no_more_parts jobs rest all e none = let a = ap row_parts none in omega (arith, e, a)

set_job : (h : Hub) (jobs : List HubJob) (k : ℕ) (job : HubJob) → AreJobsOf h jobs → k < length jobs → IsTellerOf h job.teller → AreJobsOf h (set jobs k job)
set_job h jobs k job are below one i other at = elim (set_cases jobs k i job other below at) [
  | inl here ↦ subst (λ (j : HubJob). IsTellerOf h j.teller) (sym here.1) one
  | inr old ↦ are i other old.1
]

-- a job of these with its teller later
pub one_still : (h : Hub) (first jobs : List HubJob) (k : ℕ) (d : HubJob) (t : Teller) → k < length jobs → AreStill h first jobs → IsStill h (get_or jobs k d).teller t
    → AreStill h first (set jobs k record { teller = t; thread = (get_or jobs k d).thread })
one_still h first jobs k d t below are still =
    let job : HubJob = get_or jobs k d in
    let same : get_or jobs k d ≡ get_or jobs k job = get_or_same jobs k d below in (
      set_job h jobs k record { teller = t; thread = job.thread } are.0 below still.0,
      same_sum part_of_job jobs k job record { teller = t; thread = job.thread } below same still.1 ∙ are.1,
    )
  where
    get_or_same : (xs : List HubJob) (i : ℕ) (x : HubJob) → i < length xs → get_or xs i x ≡ get_or xs i (get_or xs i x)
    get_or_same [] i x within = absurd (omega arith)
    get_or_same (y ∷ xs) zero x within = refl
    get_or_same (y ∷ xs) (suc i) x within = get_or_same xs i x (omega arith)

pub one_sees : (first jobs : List HubJob) (k : ℕ) (d : HubJob) (t : Teller) → k < length jobs → ((h : Hub) → AreJobsOf h first → AreStill h first jobs)
    → ((h : Hub) → IsTellerOf h (get_or jobs k d).teller → IsStill h (get_or jobs k d).teller t)
    → (h : Hub) → AreJobsOf h first → AreStill h first (set jobs k record { teller = t; thread = (get_or jobs k d).thread })
one_sees first jobs k d t below so sees h are =
    one_still h first jobs k d t below (so h are) (sees h ((so h are).0 k (get_or jobs k d) (slice_get-get_or jobs k d below)))

-- a vector is what is left of it as a slice
pub take_front : (n : ℕ) (xs zs : List HubJob) → n ≡ length xs → take n (xs ++ zs) ≡ xs
take_front zero [] zs e = refl
take_front (suc n) [] zs e = absurd (omega (arith, e))
take_front zero (x ∷ xs) zs e = absurd (omega (arith, e))
take_front (suc n) (x ∷ xs) zs e = ap (λ (l : List HubJob). x ∷ l) (take_front n xs zs (omega (arith, e)))

-- the tellers of jobs, one more
pub tellers_more : (all tellers more : List Teller) (rest after : List HubJob) (job : HubJob) → all ≡ tellers ++ map (λ j. j.teller) rest → rest ≡ job ∷ after → more ≡ tellers ++ job.teller ∷ [] → all ≡ more ++ map (λ j. j.teller) after
tellers_more all tellers more rest after job e is items =
    let left : List Teller = map (λ (j : HubJob). j.teller) after in
    e ∙ ap (λ (l : List HubJob). tellers ++ map (λ (j : HubJob). j.teller) l) is ∙ (sym (append_assoc tellers (job.teller ∷ []) left) ∙ ap (λ (l : List Teller). l ++ left) (sym items))

-- the tellers of a hub that is to close
nothing : (j : ℕ) (u : Teller) → slice_get [] j ≡ Some u → ⊥
nothing j u e = cc

same : (x y : Teller) → Some x ≡ Some y → x ≡ y
same x y e = cc

map_at : (jobs : List HubJob) (t : Teller) (i : ℕ) → slice_get (map (λ (job : HubJob). job.teller) jobs) i ≡ Some t → (job : HubJob) × (slice_get jobs i ≡ Some job) × (job.teller ≡ t)
map_at [] t i at = absurd (nothing i t at)
map_at (job ∷ jobs) t zero at = (job, refl, same job.teller t at)
map_at (job ∷ jobs) t (suc i) at = map_at jobs t i at

map_parts : (jobs : List HubJob) → row_parts (map (λ job. job.teller) jobs) ≡ parts_of_jobs jobs
map_parts [] = refl
map_parts (job ∷ jobs) =
    let r = map_parts jobs in
    let a = sum_by-cons part job.teller (map (λ (j : HubJob). j.teller) jobs) in
    let b = sum_by-cons part_of_job job jobs in omega (arith, r, a, b)

pub all_of_jobs : (h : Hub) (t : Teller) (jobs : List HubJob) (tellers : List Teller) → IsTellerOf h t → AreJobsOf h jobs → HaveAll t jobs → tellers ≡ map (λ job. job.teller) jobs ++ t ∷ [] → AreAllOf h tellers
all_of_jobs h t jobs tellers one are all is = (
  (λ i u at. ⊎_elim
      (λ old. (let x = map_at jobs u i old in subst (IsTellerOf h) x.2 (are i x.0 x.1)))
      (λ last. subst (IsTellerOf h) last.1 one)
      (snoc_cases (map (λ (job : HubJob). job.teller) jobs) t u i (subst (λ (l : List Teller). slice_get l i ≡ Some u) is at))),
  ap row_parts is ∙ sum_by_push part (map (λ (job : HubJob). job.teller) jobs) t ∙ ap (λ (n : ℕ). n + parts_of_one t) (map_parts jobs) ∙ all,
)
