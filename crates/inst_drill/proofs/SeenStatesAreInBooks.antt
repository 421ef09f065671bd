-- What was seen by a teller is in the books, also where the teller learnt more since.
use Rattle.std.proofs.Common.{◌≡◌, ℕ, zero, suc, List, [], ◌∷◌, Some, refl, subst}
use Rattle.std.specs.Prelude.{slice_get, pos}
use Rattle.inst_command.specs.declared.place.Place.{Place}
use Rattle.inst_command.specs.declared.outcome.State.{State}
use Rattle.inst_journal.specs.declared.event.Event.{Event}
use Rattle.inst_hub.specs.declared.hub.Hub.{Hub}
use Rattle.inst_hub.specs.declared.teller.Teller.{Teller}
use Rattle.inst_hub.specs.Calls.{TellerKnowsMore}
use Rattle.inst_crew.specs.Later.{Pairs, IsLaterTeller}
use Rattle.inst_crew.specs.Seen.{AreSeenByOne}
use Rattle.inst_crew.proofs.StatesSeenByWorker.{seen_more}
use Rattle.inst_crew.proofs.PairsOfWorkersAndShifts.{nothing_at, first_is}
use Rattle.inst_close.specs.Closing.{TellAll}
use Rattle.inst_drill.specs.inner.Report.{NoneContradicts}

-- the teller at this place later
later_at : (hub : Hub) (ts us : List Teller) (j : ℕ) (t : Teller) → Pairs (IsLaterTeller hub) ts us → slice_get ts j ≡ Some t
    → (u : Teller) × (slice_get us j ≡ Some u) × TellerKnowsMore t u
later_at hub [] us j t pairs at = absurd (nothing_at j t at)
later_at hub (x ∷ ts) [] j t pairs at = absurd pairs
later_at hub (x ∷ ts) (u ∷ us) zero t pairs at =
    (u, refl, subst (λ (y : Teller). TellerKnowsMore y u) (first_is ts x t at) pairs.0.knows)
later_at hub (x ∷ ts) (u ∷ us) (suc j) t pairs at = later_at hub ts us j t pairs.1 at

pub seen_later : (hub : Hub) (ts us : List Teller) (states : List (Place × State)) → Pairs (IsLaterTeller hub) ts us → AreSeenByOne ts states → AreSeenByOne us states
seen_later hub ts us states pairs seen i x at =
    let by = seen i x at in
    let later = later_at hub ts us by.0 by.1 pairs by.2 in
    (by.0, later.0, later.1, seen_more by.1 later.0 x later.2 by.3)

pub none_contradicts : (ts : List Teller) (J : ℕ → List Event) (states : List (Place × State)) → TellAll ts J → AreSeenByOne ts states → NoneContradicts J states
none_contradicts ts J states told seen i x at contradicts =
    let by = seen i x at in
    contradicts.2 ((told by.0 by.1 x.0 by.2 by.3.opened).outcome contradicts.0 (by.3.outcome contradicts.0 contradicts.1))

pub same_number : (a b : ℕ) → pos a ≡ pos b → a ≡ b
same_number a b e = cc
