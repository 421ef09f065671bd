use Rattle.std.proofs.Common.{◌≡◌, ◌<◌, length, arith, ap, ◌∙◌, Some}
use Rattle.std.specs.Mem.Slots.{slots_items, slots_counts}
use lib.ListN.{get_elem?}
use Rattle.inst_row.specs.Place.{place}
use Rattle.inst_row.proofs.Locks.{all_home}
use Rattle.inst_row.proofs.row.LockRow.take_apart.Goals as goal

pub returns-clause-values : goal.returns-clause-values
returns-clause-values g c = λ p below.
    let f = c.close_with.ensures.values.2 in
    let all = c.requires.all in
    let s = f.0 in
    let counts = c.close_with.ensures.counts.1 in
    let row = (slots_counts c.close_with.result.slots).0 in
    let homes : length s.homes ≡ length (slots_items c.close_with.result.slots) = f.3 in
    let sized : length s.homes ≡ length s.words = f.1.0.sized in
    let below_words : place p < length s.words = (let slots = c.args.self.slots in let b = below in omega arith) in
    let h = all_home g.L.Lawful.law g.L.Lawful.history _ s f.1.0 _ _ f.1.1 all.parts all.free.idle.no_lock p below_words in (
      h.0,
      record {
        there = c.of.ensures.there p below;
        value = ap (λ l. get_elem? l (place p)) c.of.ensures.items ∙ f.4 (place p) (Some h.0) h.1;
      },
      h.2,
      h.3,
      h.4,
    )
