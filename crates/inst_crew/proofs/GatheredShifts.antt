-- What workers did, gathered one by one.
use Rattle.std.proofs.Common.{◌≡◌, ◌+◌, ◌-◌, ◌^◌, List, [], ◌∷◌, ◌++◌, sym, refl, ap, ◌∙◌, arith, append_assoc}
use Rattle.std.specs.Prelude.{min, map, Result, Ok}
use Rattle.std.proofs.lemmas.List.{append-nil}
use Rattle.std.proofs.lemmas.List.Sums.{sum_by_push}
use Rattle.std.specs.declared.alloc.AllocError.{AllocError}
use Rattle.inst_command.specs.declared.place.Place.{Place}
use Rattle.inst_command.specs.declared.outcome.State.{State}
use Rattle.inst_desk.specs.declared.hand.Hand.{Hand}
use Rattle.inst_hub.specs.declared.teller.Teller.{Teller}
use Rattle.inst_crew.specs.declared.crew.Crew.{Crew}
use Rattle.inst_crew.specs.declared.shift.Shift.{Shift}
use Rattle.inst_crew.specs.inner.Workers.{IsGathered, states_of}

map_more : {X Y : Type 0} (f : X → Y) (xs : List X) (x : X) → map f (xs ++ x ∷ []) ≡ map f xs ++ f x ∷ []
map_more f [] x = refl
map_more {X} {Y} f (y ∷ ys) x = ap (λ (l : List Y). f y ∷ l) (map_more f ys x)

states_more : (ss : List Shift) (s : Shift) → states_of (ss ++ s ∷ []) ≡ states_of ss ++ s.states.items
states_more [] s = append-nil s.states.items
states_more (x ∷ xs) s = ap (λ (l : List (Place × State)). x.states.items ++ l) (states_more xs s) ∙ sym (append_assoc x.states.items (states_of xs) s.states.items)

pub gathered_more : (ss : List Shift) (s : Shift) (crew more : Crew) → IsGathered ss crew → more.answered ≡ min (crew.answered + s.answered) (2 ^ 64 - 1) → more.states.items ≡ crew.states.items ++ s.states.items → more.hands.items ≡ crew.hands.items ++ s.hand ∷ [] → more.tellers.items ≡ crew.tellers.items ++ s.teller ∷ [] → IsGathered (ss ++ s ∷ []) more
gathered_more ss s crew more g answered states hands tellers = record {
  answered = (let a = sum_by_push (λ (x : Shift). x.answered) ss s in let e = g.answered in omega arith);
  states = states ∙ (ap (λ (l : List (Place × State)). l ++ s.states.items) g.states ∙ sym (states_more ss s));
  hands = hands ∙ (ap (λ (l : List Hand). l ++ s.hand ∷ []) g.hands ∙ sym (map_more (λ (x : Shift). x.hand) ss s));
  tellers = tellers ∙ (ap (λ (l : List Teller). l ++ s.teller ∷ []) g.tellers ∙ sym (map_more (λ (x : Shift). x.teller) ss s));
}

-- so far the results are those of these, and these are left
pub ends_more : (ss : List Shift) (s : Shift) (r : Result Shift AllocError) (all rest after : List (Result Shift AllocError)) → all ≡ map Ok ss ++ rest → rest ≡ r ∷ after → r ≡ Ok s → all ≡ map Ok (ss ++ s ∷ []) ++ after
ends_more ss s r all rest after e is ok =
    let mine : List (Result Shift AllocError) = map Ok ss in
    e ∙ (ap (λ (l : List (Result Shift AllocError)). mine ++ l) (is ∙ ap (λ (x : Result Shift AllocError). x ∷ after) ok)
    ∙ (sym (append_assoc mine (Ok s ∷ []) after) ∙ ap (λ (l : List (Result Shift AllocError)). l ++ after) (sym (map_more Ok ss s))))
