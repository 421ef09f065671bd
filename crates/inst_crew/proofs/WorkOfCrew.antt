-- What a crew did, of what its workers did.
use Rattle.std.proofs.Common.{◌≡◌, List, [], ◌∷◌, ◌++◌, length, Some, None, refl, sym, ap, ◌∙◌, subst}
use Rattle.std.specs.Prelude.{map, slice_get, Option, option_to_list, Result, Ok}
use Rattle.std.proofs.lemmas.List.{length-append}
use Rattle.std.specs.declared.alloc.AllocError.{AllocError}
use Rattle.inst_command.specs.declared.place.Place.{Place}
use Rattle.inst_command.specs.declared.outcome.State.{State}
use Rattle.inst_desk.specs.declared.desk.Desk.{Desk}
use Rattle.inst_desk.specs.declared.hand.Hand.{Hand}
use Rattle.inst_hub.specs.declared.hub.Hub.{Hub}
use Rattle.inst_hub.specs.declared.teller.Teller.{Teller}
use Rattle.inst_crew.specs.declared.crew.Crew.{Crew}
use Rattle.inst_crew.specs.declared.shift.Shift.{Shift}
use Rattle.inst_crew.specs.declared.worker.Worker.{Worker}
use Rattle.inst_crew.specs.declared.sweep.Sweep.{Sweep}
use Rattle.inst_crew.specs.declared.team.Team.{Team}
use Rattle.inst_crew.specs.Crew.{answered_between, sweeper_of, team_tellers, IsSwept, HasWorked, AreBack}
use Rattle.inst_crew.specs.Later.{Pairs, IsLaterHand, IsLaterTeller}
use Rattle.inst_crew.specs.Seen.{AreSeenByOne}
use Rattle.inst_crew.specs.inner.Workers.{hands_of, workers_tellers, states_of, HasEndedShift, AllWork, IsGathered}
use Rattle.inst_crew.proofs.PairsOfWorkersAndShifts.{pairs_both, pairs_from, pairs_work, pairs_hands, pairs_tellers, pairs_length, are_hands, are_tellers, same_parts, same_row, all_answered, all_served, all_seen, seen_with}

-- the sweeper's teller knows no less
swept_later : (hub : Hub) (sweep : Option Sweep) (after : Option Teller) → IsSwept hub sweep after → Pairs (IsLaterTeller hub) (sweeper_of sweep) (option_to_list after)
swept_later hub None None is = tt
swept_later hub None (Some u) is = absurd (some_teller u is)
  where
    some_teller : (u : Teller) → Some u ≡ None → ⊥
    some_teller u e = cc
swept_later hub (Some sweep) None is = absurd is
swept_later hub (Some sweep) (Some u) is = (is.later, tt)

-- the sweeper's teller is the last
last_at : (us : List Teller) (after : Option Teller) → slice_get (us ++ option_to_list after) (length us) ≡ after
last_at [] None = refl
last_at [] (Some u) = refl
last_at (u ∷ us) after = last_at us after

pub worked_together : (hub : Hub) (d : Desk) (team : Team) (after : Option Teller) (ws : List Worker) (rs : List (Result Shift AllocError)) (first crew : Crew) (ss : List Shift)
    → hands_of ws ≡ team.hands.items → workers_tellers ws ≡ team.tellers.items → AllWork hub d ws rs → rs ≡ map Ok ss → IsGathered ss first → IsSwept hub team.sweep after
    → crew.hands.items ≡ first.hands.items → crew.tellers.items ≡ first.tellers.items ++ option_to_list after → crew.answered ≡ first.answered → crew.states.items ≡ first.states.items
    → HasWorked hub d team crew
worked_together hub d team after ws rs first crew ss h t all ok g swept ch ct ca cs =
    let ended : Pairs (HasEndedShift hub d) ws ss = pairs_from hub d ws ss (subst (λ (l : List (Result Shift AllocError)). AllWork hub d ws l) ok all) in
    let pairs = pairs_work hub d ws ss ended in
    let mine : List Hand = map (λ (s : Shift). s.hand) ss in
    let theirs : List Teller = map (λ (s : Shift). s.teller) ss in
    let hs : crew.hands.items ≡ mine = ch ∙ g.hands in
    let ts : crew.tellers.items ≡ theirs ++ option_to_list after = ct ∙ ap (λ (l : List Teller). l ++ option_to_list after) g.tellers in
    let counts = all_answered hub d ws ss pairs in
    let as_many : length theirs ≡ length team.tellers.items = pairs_length (IsLaterTeller hub) (workers_tellers ws) theirs (pairs_tellers hub d ws ss pairs) ∙ ap length t in
    record {
      hands = subst (λ (l : List Hand). Pairs (IsLaterHand d) l crew.hands.items) h (subst (λ (l : List Hand). Pairs (IsLaterHand d) (hands_of ws) l) (sym hs) (pairs_hands hub d ws ss pairs));
      tellers = subst (λ (l : List Teller). Pairs (IsLaterTeller hub) (l ++ sweeper_of team.sweep) crew.tellers.items) t
          (subst (λ (l : List Teller). Pairs (IsLaterTeller hub) (workers_tellers ws ++ sweeper_of team.sweep) l) (sym ts)
          (pairs_both (IsLaterTeller hub) (workers_tellers ws) (sweeper_of team.sweep) theirs (option_to_list after) (pairs_tellers hub d ws ss pairs) (swept_later hub team.sweep after swept)));
      answered = ca ∙ (g.answered ∙ (counts.0 ∙ (ap (λ (l : List Hand). answered_between hub.settings l mine) h ∙ ap (λ (l : List Hand). answered_between hub.settings team.hands.items l) (sym hs))));
      served = rw (hs, ts, cs, g.states, sym h, sym t) (all_served hub d ws ss (option_to_list after) ended);
      states = subst (λ (l : List Teller). AreSeenByOne l crew.states.items) (sym ts)
          (subst (λ (l : List (Place × State)). AreSeenByOne (theirs ++ option_to_list after) l) (sym (cs ∙ g.states))
          (seen_with theirs (option_to_list after) (states_of ss) (all_seen hub d ws ss pairs)));
      swept = subst (λ (o : Option Teller). IsSwept hub team.sweep o)
          (sym (last_at theirs after) ∙ (ap (slice_get (theirs ++ option_to_list after)) as_many ∙ ap (λ (l : List Teller). slice_get l (length team.tellers.items)) (sym ts))) swept;
    }

-- what came back, by what was done
pub are_back : (hub : Hub) (d : Desk) (team : Team) (crew : Crew) → HasWorked hub d team crew → AreBack hub d team crew
are_back hub d team crew worked = record {
  hands = are_hands d team.hands.items crew.hands.items worked.hands;
  tellers = are_tellers hub (team_tellers team) crew.tellers.items worked.tellers;
  all_hands = pairs_length (IsLaterHand d) team.hands.items crew.hands.items worked.hands;
  all_tellers = pairs_length (IsLaterTeller hub) (team_tellers team) crew.tellers.items worked.tellers ∙ length-append team.tellers.items (sweeper_of team.sweep);
  parts_of_hands = same_parts d team.hands.items crew.hands.items worked.hands;
  parts_of_tellers = same_row hub (team_tellers team) crew.tellers.items worked.tellers;
}
