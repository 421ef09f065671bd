use Rattle.std.proofs.Common.{arith, ◌≡◌, ◌∙◌, ℕ, List, length, set, Some, None, sym, ap, subst}
use Rattle.std.proofs.lemmas.Option.{get_or_from_slice_get, slice_get_within}
use Rattle.std.specs.Prelude.{get_or}
use Rattle.inst_command.specs.declared.entry.Entry.{Entry}
use Rattle.inst_terms.specs.declared.terms.Terms.{Terms}
use Rattle.inst_command.specs.declared.place.Place.{Place}
use Rattle.inst_journal.specs.declared.event.Event.{Event}
use Rattle.inst_transfers.specs.Held.{AreApart, AreWithin, AreRising}
use Rattle.inst_slot.specs.declared.arrival.Arrival.{Arrival}
use Rattle.inst_slot.specs.declared.arrivals.Spot.{Spot}
use Rattle.inst_slot.specs.Opening.{awaits}
use Rattle.inst_slot.specs.Spots.{rows_of, no_entry, arrival_of, arrivals_of}
use Rattle.inst_slot.specs.inner.Spots.{FindsSpot, IsSpotAt}
use Rattle.inst_slot.proofs.ArrivalGetsItsPlace.{no_arrival, another_arrival, this_arrival}
use Rattle.inst_slot.proofs.Spots.{found_row, arrives_once, unknown_counted, counted_none, is_here, is_named, arrival_there, arrivals_set, positions_set}
use Rattle.inst_slot.proofs.arrivals.find_at.Goals as goal

pub returns-in_default-clause-found : goal.returns-in_default-clause-found
returns-in_default-clause-found c =
    let l = c.args.ledger.now in
    let J : List Event = l.book.events in
    let rows : List Entry = rows_of l.book.who J in
    let S : List Spot = c.args.spots.now.items in
    let k : Place = c.args.place in
    let t : Terms = c.args.terms.now in
    let right = c.transfers.ensures.right in
    let apart = subst AreApart right.rows c.transfers.ensures.apart in
    let once = arrives_once rows S apart c.requires.spots k.owner t.id in
    let none = unknown_counted l.table.entries rows S right.rows c.requires.spots k.owner t.id c.in_default.ensures.found in
    (no_arrival (arrivals_of rows S) k t c.args.deadline once none).found

pub returns-in_default-clause-kept : goal.returns-in_default-clause-kept
returns-in_default-clause-kept c =
    let l = c.args.ledger.now in
    let J : List Event = l.book.events in
    let rows : List Entry = rows_of l.book.who J in
    let S : List Spot = c.args.spots.now.items in
    let k : Place = c.args.place in
    let t : Terms = c.args.terms.now in
    let right = c.transfers.ensures.right in
    let apart = subst AreApart right.rows c.transfers.ensures.apart in
    let once = arrives_once rows S apart c.requires.spots k.owner t.id in
    let none = unknown_counted l.table.entries rows S right.rows c.requires.spots k.owner t.id c.in_default.ensures.found in
    (no_arrival (arrivals_of rows S) k t c.args.deadline once none).kept

pub returns-in_default-spot_at-clause-found : goal.returns-in_default-spot_at-clause-found
returns-in_default-spot_at-clause-found c =
    let l = c.args.ledger.now in
    let J : List Event = l.book.events in
    let rows : List Entry = rows_of l.book.who J in
    let S : List Spot = c.args.spots.now.items in
    let k : Place = c.args.place in
    let t : Terms = c.args.terms.now in
    let right = c.transfers.ensures.right in
    let apart = subst AreApart right.rows c.transfers.ensures.apart in
    let once = arrives_once rows S apart c.requires.spots k.owner t.id in
    let f = c.in-Some.found in
    let is = c.in-Some.ensures.found in
    let row = found_row l.book.who J l.table f c.in-Some.ensures.right is.2 in
    let none = counted_none rows S apart c.requires.spots k.owner t.id f.position _ row is.0 is.1 (subst (λ (l : List Spot). FindsSpot l f.position None) c.as_slice.ensures.value c.in_default-spot_at.ensures) in
    (no_arrival (arrivals_of rows S) k t c.args.deadline once none).found

pub returns-in_default-spot_at-clause-kept : goal.returns-in_default-spot_at-clause-kept
returns-in_default-spot_at-clause-kept c =
    let l = c.args.ledger.now in
    let J : List Event = l.book.events in
    let rows : List Entry = rows_of l.book.who J in
    let S : List Spot = c.args.spots.now.items in
    let k : Place = c.args.place in
    let t : Terms = c.args.terms.now in
    let right = c.transfers.ensures.right in
    let apart = subst AreApart right.rows c.transfers.ensures.apart in
    let once = arrives_once rows S apart c.requires.spots k.owner t.id in
    let f = c.in-Some.found in
    let is = c.in-Some.ensures.found in
    let row = found_row l.book.who J l.table f c.in-Some.ensures.right is.2 in
    let none = counted_none rows S apart c.requires.spots k.owner t.id f.position _ row is.0 is.1 (subst (λ (l : List Spot). FindsSpot l f.position None) c.as_slice.ensures.value c.in_default-spot_at.ensures) in
    (no_arrival (arrivals_of rows S) k t c.args.deadline once none).kept

pub index-requires : goal.index-requires
index-requires c =
    let i : ℕ = c.in-Some-spot_at.at in
    let at = c.in-Some-spot_at.ensures in
    omega (arith, slice_get_within c.as_slice.result.now i at.spot at.there, c.as_slice.ensures.len)

pub index_mut-requires : goal.index_mut-requires
index_mut-requires c =
    let i : ℕ = c.in-Some-spot_at.at in
    let at = c.in-Some-spot_at.ensures in
    omega (arith, slice_get_within c.as_slice.result.now i at.spot at.there, c.as_slice.ensures.len)

pub returns-then-not-awaits-clause-found : goal.returns-then-not-awaits-clause-found
returns-then-not-awaits-clause-found c =
    let l = c.args.ledger.now in
    let J : List Event = l.book.events in
    let rows : List Entry = rows_of l.book.who J in
    let S : List Spot = c.args.spots.now.items in
    let k : Place = c.args.place in
    let t : Terms = c.args.terms.now in
    let right = c.transfers.ensures.right in
    let apart = subst AreApart right.rows c.transfers.ensures.apart in
    let once = arrives_once rows S apart c.requires.spots k.owner t.id in
    let f = c.in-Some.found in
    let is = c.in-Some.ensures.found in
    let row = found_row l.book.who J l.table f c.in-Some.ensures.right is.2 in
    let i : ℕ = c.in-Some-spot_at.at in
    let at = subst (λ (l : List Spot). IsSpotAt l f.position i) c.as_slice.ensures.value c.in-Some-spot_at.ensures in
    let x : Arrival = arrival_of rows at.spot in
    let here : c.index.result.now ≡ at.spot = c.index.ensures ∙ get_or_from_slice_get S i at.spot _ at.there in
    let entry : c.entry-entry.result ≡ x.entry = c.entry-entry.ensures ∙ sym (is_here rows S apart c.requires.spots k.owner t.id f.position _ row is.0 is.1 i at) in
    let same : record { entry = c.entry-entry.result; index = c.index.result.now.index } ≡ x = λ j. record { entry = entry j; index = (here j).index } in
    let there = arrival_there rows S i at.spot at.there in
    let mine = is_named rows S apart c.requires.spots k.owner t.id f.position _ row is.0 is.1 i at in
    let other = ap (awaits k t c.args.deadline) (sym same) ∙ sym c.awaits.ensures ∙ c.if-not-awaits.true in
    (another_arrival (arrivals_of rows S) k t c.args.deadline once i x there mine other).found

pub returns-then-not-awaits-clause-kept : goal.returns-then-not-awaits-clause-kept
returns-then-not-awaits-clause-kept c =
    let l = c.args.ledger.now in
    let J : List Event = l.book.events in
    let rows : List Entry = rows_of l.book.who J in
    let S : List Spot = c.args.spots.now.items in
    let k : Place = c.args.place in
    let t : Terms = c.args.terms.now in
    let right = c.transfers.ensures.right in
    let apart = subst AreApart right.rows c.transfers.ensures.apart in
    let once = arrives_once rows S apart c.requires.spots k.owner t.id in
    let f = c.in-Some.found in
    let is = c.in-Some.ensures.found in
    let row = found_row l.book.who J l.table f c.in-Some.ensures.right is.2 in
    let i : ℕ = c.in-Some-spot_at.at in
    let at = subst (λ (l : List Spot). IsSpotAt l f.position i) c.as_slice.ensures.value c.in-Some-spot_at.ensures in
    let x : Arrival = arrival_of rows at.spot in
    let here : c.index.result.now ≡ at.spot = c.index.ensures ∙ get_or_from_slice_get S i at.spot _ at.there in
    let entry : c.entry-entry.result ≡ x.entry = c.entry-entry.ensures ∙ sym (is_here rows S apart c.requires.spots k.owner t.id f.position _ row is.0 is.1 i at) in
    let same : record { entry = c.entry-entry.result; index = c.index.result.now.index } ≡ x = λ j. record { entry = entry j; index = (here j).index } in
    let there = arrival_there rows S i at.spot at.there in
    let mine = is_named rows S apart c.requires.spots k.owner t.id f.position _ row is.0 is.1 i at in
    let other = ap (awaits k t c.args.deadline) (sym same) ∙ sym c.awaits.ensures ∙ c.if-not-awaits.true in
    (another_arrival (arrivals_of rows S) k t c.args.deadline once i x there mine other).kept

pub returns-clause-found : goal.returns-clause-found
returns-clause-found c =
    let l = c.args.ledger.now in
    let J : List Event = l.book.events in
    let rows : List Entry = rows_of l.book.who J in
    let S : List Spot = c.args.spots.now.items in
    let k : Place = c.args.place in
    let t : Terms = c.args.terms.now in
    let right = c.transfers.ensures.right in
    let apart = subst AreApart right.rows c.transfers.ensures.apart in
    let once = arrives_once rows S apart c.requires.spots k.owner t.id in
    let f = c.in-Some.found in
    let is = c.in-Some.ensures.found in
    let row = found_row l.book.who J l.table f c.in-Some.ensures.right is.2 in
    let i : ℕ = c.in-Some-spot_at.at in
    let at = subst (λ (l : List Spot). IsSpotAt l f.position i) c.as_slice.ensures.value c.in-Some-spot_at.ensures in
    let x : Arrival = arrival_of rows at.spot in
    let here : c.index.result.now ≡ at.spot = c.index.ensures ∙ get_or_from_slice_get S i at.spot _ at.there in
    let entry : c.entry-entry.result ≡ x.entry = c.entry-entry.ensures ∙ sym (is_here rows S apart c.requires.spots k.owner t.id f.position _ row is.0 is.1 i at) in
    let same : record { entry = c.entry-entry.result; index = c.index.result.now.index } ≡ x = λ j. record { entry = entry j; index = (here j).index } in
    let there = arrival_there rows S i at.spot at.there in
    let mine = is_named rows S apart c.requires.spots k.owner t.id f.position _ row is.0 is.1 i at in
    let waits = ap (awaits k t c.args.deadline) (sym same) ∙ sym c.awaits.ensures ∙ c.if-not-awaits.false in
    (this_arrival (arrivals_of rows S) k t c.args.deadline once i x there mine waits).0

pub returns-clause-kept : goal.returns-clause-kept
returns-clause-kept c =
    let l = c.args.ledger.now in
    let J : List Event = l.book.events in
    let rows : List Entry = rows_of l.book.who J in
    let S : List Spot = c.args.spots.now.items in
    let k : Place = c.args.place in
    let t : Terms = c.args.terms.now in
    let right = c.transfers.ensures.right in
    let apart = subst AreApart right.rows c.transfers.ensures.apart in
    let once = arrives_once rows S apart c.requires.spots k.owner t.id in
    let f = c.in-Some.found in
    let is = c.in-Some.ensures.found in
    let row = found_row l.book.who J l.table f c.in-Some.ensures.right is.2 in
    let i : ℕ = c.in-Some-spot_at.at in
    let at = subst (λ (l : List Spot). IsSpotAt l f.position i) c.as_slice.ensures.value c.in-Some-spot_at.ensures in
    let x : Arrival = arrival_of rows at.spot in
    let here : c.index.result.now ≡ at.spot = c.index.ensures ∙ get_or_from_slice_get S i at.spot _ at.there in
    let entry : c.entry-entry.result ≡ x.entry = c.entry-entry.ensures ∙ sym (is_here rows S apart c.requires.spots k.owner t.id f.position _ row is.0 is.1 i at) in
    let same : record { entry = c.entry-entry.result; index = c.index.result.now.index } ≡ x = λ j. record { entry = entry j; index = (here j).index } in
    let there = arrival_there rows S i at.spot at.there in
    let mine = is_named rows S apart c.requires.spots k.owner t.id f.position _ row is.0 is.1 i at in
    let waits = ap (awaits k t c.args.deadline) (sym same) ∙ sym c.awaits.ensures ∙ c.if-not-awaits.false in
    let new : Spot = record { position = c.index.result.now.position; index = Some k.index } in
    let lies : arrival_of rows new ≡ record { entry = x.entry; index = Some k.index } = λ j. record { entry = get_or rows (here j).position no_entry; index = Some k.index } in
    arrivals_set rows S i new ∙ ap (set (arrivals_of rows S) i) lies ∙ (this_arrival (arrivals_of rows S) k t c.args.deadline once i x there mine waits).1

pub returns-clause-spots : goal.returns-clause-spots
returns-clause-spots c =
    let l = c.args.ledger.now in
    let J : List Event = l.book.events in
    let rows : List Entry = rows_of l.book.who J in
    let S : List Spot = c.args.spots.now.items in
    let k : Place = c.args.place in
    let t : Terms = c.args.terms.now in
    let right = c.transfers.ensures.right in
    let apart = subst AreApart right.rows c.transfers.ensures.apart in
    let once = arrives_once rows S apart c.requires.spots k.owner t.id in
    let f = c.in-Some.found in
    let is = c.in-Some.ensures.found in
    let row = found_row l.book.who J l.table f c.in-Some.ensures.right is.2 in
    let i : ℕ = c.in-Some-spot_at.at in
    let at = subst (λ (l : List Spot). IsSpotAt l f.position i) c.as_slice.ensures.value c.in-Some-spot_at.ensures in
    let x : Arrival = arrival_of rows at.spot in
    let here : c.index.result.now ≡ at.spot = c.index.ensures ∙ get_or_from_slice_get S i at.spot _ at.there in
    let entry : c.entry-entry.result ≡ x.entry = c.entry-entry.ensures ∙ sym (is_here rows S apart c.requires.spots k.owner t.id f.position _ row is.0 is.1 i at) in
    let same : record { entry = c.entry-entry.result; index = c.index.result.now.index } ≡ x = λ j. record { entry = entry j; index = (here j).index } in
    let there = arrival_there rows S i at.spot at.there in
    let mine = is_named rows S apart c.requires.spots k.owner t.id f.position _ row is.0 is.1 i at in
    let new : Spot = record { position = c.index.result.now.position; index = Some k.index } in
    subst (λ (l : List ℕ). AreWithin (length rows) l × AreRising l) (sym (positions_set S i at.spot new at.there (ap (λ (s : Spot). s.position) here))) c.requires.spots
