use Rattle.std.proofs.Common.{◌<◌, ◌∙◌, List, Some, None, get_or, length, sym, ap, subst, arith, rules}
use Rattle.std.specs.Prelude.{slice_get}
use Rattle.std.proofs.lemmas.Option.{slice_get-get_or, slice_get_within}
use Rattle.std.proofs.lemmas.List.{length-map}
use Rattle.inst_slot.specs.declared.arrivals.Spot.{Spot}
use Rattle.inst_slot.specs.Book.{Book}
use Rattle.inst_slot.specs.Spots.{rows_of, arrival_of, arrivals_of}
use Rattle.inst_slot.proofs.Spots.{within_there, arrival_there, none_more}
use Rattle.inst_slot.proofs.slot.Slot.unbooked_from.Goals as goal

pub unbooked_place-requires : goal.unbooked_place-requires
unbooked_place-requires c =
    let S : List Spot = c.as_slice-spots.result.now in
    let l = c.self.inside.ledger.book in
    let first : Spot = record { position = 0; index = None } in
    let there = slice_get-get_or S c.loop-at.at first c.loop-at-test.true in
    subst (λ (x : Book). (get_or S c.loop-at.at first).position < length (rows_of x.who x.events)) c.self.view_is
    (within_there (length (rows_of l.who l.events)) c.self.inside.arrivals.items c.loop-at.at (get_or S c.loop-at.at first) c.self.invariant.1.0
    (ap (λ (l : List Spot). slice_get l c.loop-at.at) (sym c.as_slice-spots.ensures.value) ∙ there))

pub returns-in-Some-clause-next : goal.returns-in-Some-clause-next
returns-in-Some-clause-next c =
    let S : List Spot = c.as_slice-spots.result.now in
    let book : Book = c.args.self.now in
    let l = c.self.inside.ledger.book in
    let first : Spot = record { position = 0; index = None } in
    let s : Spot = get_or S c.loop-at.at first in
    let there = ap (λ (l : List Spot). slice_get l c.loop-at.at) (sym c.as_slice-spots.ensures.value) ∙ slice_get-get_or S c.loop-at.at first c.loop-at-test.true in
    record {
      arrival = arrival_of (rows_of book.who book.events) s;
      there = ap (λ (x : Book). slice_get x.arrivals c.loop-at.at) (sym c.self.view_is) ∙ arrival_there (rows_of l.who l.events) c.self.inside.arrivals.items c.loop-at.at s there
          ∙ ap (λ (x : Book). Some (arrival_of (rows_of x.who x.events) s)) c.self.view_is;
      place = sym c.unbooked_place.ensures ∙ c.in-Some.is;
      within = c.loop-at.invariant.0;
      first = c.loop-at.invariant.1;
    }

pub loop-at-preserved : goal.loop-at-preserved
loop-at-preserved c =
    let S : List Spot = c.as_slice-spots.result.now in
    let book : Book = c.args.self.now in
    let l = c.self.inside.ledger.book in
    let first : Spot = record { position = 0; index = None } in
    let s : Spot = get_or S c.loop-at.at first in
    let there = ap (λ (l : List Spot). slice_get l c.loop-at.at) (sym c.as_slice-spots.ensures.value) ∙ slice_get-get_or S c.loop-at.at first c.loop-at-test.true in
    let same = ap (λ (x : Book). arrivals_of (rows_of x.who x.events) c.self.inside.arrivals.items) (sym c.self.view_is) ∙ ap (λ (x : Book). x.arrivals) c.self.view_is in
    (omega (arith, c.loop-at.invariant.0), none_more book (rows_of book.who book.events) c.self.inside.arrivals.items c.args.position c.loop-at.at s same c.loop-at.invariant.1 there (sym c.unbooked_place.ensures ∙ c.in_default.is))

pub returns-clause-next : goal.returns-clause-next
returns-clause-next c = λ i arrival from there.
    let l = c.self.inside.ledger.book in
    let below = slice_get_within c.args.self.now.arrivals i arrival there in
    let many = ap (λ (x : Book). length x.arrivals) (sym c.self.view_is) ∙ length-map c.self.inside.arrivals.items (arrival_of (rows_of l.who l.events)) ∙ ap length (sym c.as_slice-spots.ensures.value) in
    c.loop-at.invariant.1 i arrival from (omega (arith, below, many, c.loop-at-test.false)) there

pub loop-at-init : goal.loop-at-init
loop-at-init c = search rules
