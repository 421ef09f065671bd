-- Words that a hub can't do.
use Rattle.std.proofs.Common.{◌<◌, ◌≤◌, ℕ, List, length, codes, refl, subst, arith}
use Rattle.clap.specs.Words.{Row}
use Rattle.inst_settings.specs.Settings.{HubSettings}
use Rattle.inst_settings.specs.Lawful.{AreOfAHub}
use Rattle.inst_drill.specs.Plan.{MayDrill}
use Rattle.inst_options.specs.Options.{Chooses, HasSmallNumbers, IsTask, Task}
use Rattle.inst_options.specs.Options.Task.{Run, Play, Drill, Check}
use Rattle.inst_options.specs.Asking.{AreChosen, AreUnfit, AreWhole}
use Rattle.inst_options.proofs.OptionsWithoutSettings.{chosen_by, codes_one, given_one, hub_of, no_other}
use Rattle.inst_program.specs.Program.{AreRefused, MayDo}

-- what a hub can do fits
fits : (s : HubSettings) (task : Task) → AreOfAHub s → MayDo s task → HasSmallNumbers task
fits s Run good may = tt
fits s Play good may = tt
fits s Check good may = tt
fits s (Drill transfers openings) good may =
    let transfers_most = may.places in
    let places_most = good.lawful.places_most in
    let openings_most = may.most_openings in
    (omega arith, omega arith)

-- words that choose nothing that fits choose nothing that a hub can do
pub refused : (words : List (List ℕ)) → AreUnfit words → AreRefused words
refused words unfit = record {
  whole = unfit.whole;
  hub = unfit.hub;
  none = λ task s chosen good. unfit.none task s chosen (good.0, fits s task good.0 good.1);
}

-- a drill that the chosen hub can't do: the options choose no other one
other_drill : (name : List ℕ) (rows : List Row) (s : HubSettings) (transfers openings : ℕ) → IsTask name rows (Drill transfers openings) → Chooses rows s →
    ¬ (MayDrill s transfers openings) → (task : Task) (t : HubSettings) → IsTask name rows task → Chooses rows t → ¬ (AreOfAHub t × MayDo t task)
other_drill name rows s transfers openings drill chosen unfit Run t is chosen' good = let other : ⊥ = cc (is.1, drill.1) in absurd other
other_drill name rows s transfers openings drill chosen unfit Play t is chosen' good = let other : ⊥ = cc (is, drill.0) in absurd other
other_drill name rows s transfers openings drill chosen unfit Check t is chosen' good = let other : ⊥ = cc (is.1, drill.1) in absurd other
other_drill name rows s transfers openings drill chosen unfit (Drill transfers' openings') t is chosen' good =
    let may = good.1 in
    let codes_same = codes_one rows t s chosen' chosen in
    let places = given_one rows (codes "places") t.places s.places chosen'.places chosen.places in
    let ceiling = given_one rows (codes "ceiling") t.ceiling s.ceiling chosen'.ceiling chosen.ceiling in
    let transfers_same = given_one rows (codes "transfers") transfers' transfers is.2.0 drill.2.0 in
    let openings_same = given_one rows (codes "openings") openings' openings is.2.1 drill.2.1 in
    unfit (record {
      two = subst (λ (all : List (List ℕ)). 2 ≤ length all) codes_same may.two;
      some_transfer = subst (λ (n : ℕ). 0 < n) transfers_same may.some_transfer;
      places = omega (arith, may.places, transfers_same, places);
      funding = omega (arith, may.funding, transfers_same, ceiling);
      some_opening = subst (λ (n : ℕ). 0 < n) openings_same may.some_opening;
      most_openings = subst (λ (n : ℕ). n ≤ 10) openings_same may.most_openings;
    })

-- and so the words are refused
pub undrillable : (words : List (List ℕ)) (s : HubSettings) (transfers openings : ℕ) → AreWhole words → AreChosen words (Drill transfers openings) s →
    ¬ (MayDrill s transfers openings) → AreRefused words
undrillable words s transfers openings whole chosen unfit = record {
  whole = whole;
  hub =
      let drill = chosen.3.1 in
      hub_of words chosen.0 chosen.1 chosen.2
      (no_other chosen.0 (codes "drill") (codes "log") drill refl, no_other chosen.0 (codes "drill") (codes "next") drill refl, no_other chosen.0 (codes "drill") (codes "audit") drill refl, no_other chosen.0 (codes "drill") (codes "explain") drill refl);
  none = λ task t other.
      let is = chosen_by words chosen.0 chosen.1 task t chosen.2 other in
      other_drill chosen.0 chosen.1 s transfers openings chosen.3 chosen.4 unfit task t is.0 is.1;
}
