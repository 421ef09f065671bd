use Rattle.std.proofs.Common.{arith, ℕ, ◌<◌, ◌≡◌, sym, ap, ◌∙◌, subst, List, inr}
use mathlib.Core.List.{IsPrefix}
use Rattle.inst_journal.specs.declared.event.Event.{Event}
use Rattle.inst_row.specs.Row.{key_of}
use Rattle.inst_settings.specs.Settings.{participants}
use Rattle.inst_slot.specs.Book.{Book}
use Rattle.inst_cell.specs.declared.sight.Sight.{Sight}
use Rattle.std.specs.Prelude.{slice_get}
use Rattle.inst_participant.specs.Together.{histories}
use Rattle.inst_hub.specs.Closing.{OneHasSeen}
use Rattle.inst_hub.proofs.HubPartsFromLocks.{at_one, sights_of_words, separate, goes_on, map_got}
use Rattle.inst_hub.proofs.JoinedSeatsOfTellers.{sight_of}
use Rattle.inst_hub.proofs.hub.Hub.take_apart.Goals as goal

pub unite-requires : goal.unite-requires
unite-requires c =
    let h = c.args.self in
    record {
      some = (let many = c.empty.ensures.taken.enough.1 in let locks = h.sized in omega (arith, many, locks, c.participants.ensures.some, c.participants.ensures.value));
      one = (
        (key_of h.row).words.value,
        at_one h c.gather-seat.result c.empty.new.slots.items c.empty.new.boards.items c.empty.ensures.taken,
        sights_of_words h c.gather-seat.result c.empty.new.slots.items c.empty.new.boards.items c.empty.ensures.taken c.args.tellers.items c.gather-seat.new.sights.items c.requires.of c.gather-seat.ensures.sights,
      );
    }

pub returns-clause-parts : goal.returns-clause-parts
returns-clause-parts c = λ O opened from.
    let h = c.args.self in
    c.unite.ensures.parts (key_of h.row).words.value O
    (separate h c.gather-seat.result c.empty.new.slots.items c.empty.new.boards.items c.empty.ensures.taken O opened from)

pub returns-clause-seen : goal.returns-clause-seen
returns-clause-seen c =
    let h = c.args.self in
    let slots = c.empty.new.slots.items in
    let left = λ (p : ℕ) (below : p < participants h.settings). goes_on h c.gather-seat.result slots c.empty.new.boards.items c.empty.ensures.taken p (subst (λ (n : ℕ). p < n) (sym h.sized) below) in
    record {
      goes_on = λ i t p seen at below saw.
          let g = left p below in
          let whole : histories c.unite.result.slots.items p ≡ g.0.events = ap (λ (l : List Book). histories l p) c.unite.ensures.slots ∙ g.1 in
          subst (λ (J : List Event). IsPrefix seen J) (sym whole) (g.2 seen ((c.gather-seat.ensures.seen p seen).1 (i, t, at, saw)));
      last = λ p below.
          let g = left p below in
          let whole : histories c.unite.result.slots.items p ≡ g.0.events = ap (λ (l : List Book). histories l p) c.unite.ensures.slots ∙ g.1 in
          subst (λ (J : List Event). OneHasSeen c.args.tellers.items p J) (sym whole) ((c.gather-seat.ensures.seen p g.0.events).0 g.3);
      knows = λ i t f at kn.
          (c.unite.ensures.known f).1 (inr (i, t.sight, ap (λ (l : List Sight). slice_get l i) c.gather-seat.ensures.sights ∙ map_got sight_of c.args.tellers.items i t at, kn));
    }
