use Rattle.std.proofs.Common.{◌≡◌, ◌<◌, ◌++◌, List, ℕ, inl, length, take, sym, ◌∙◌, ap, subst, arith}
use Rattle.std.proofs.lemmas.List.{length-take-le, with_items_is}
use Rattle.std.specs.Io.KnownBytes.{Consumes}
use Rattle.inst_log.specs.Layout.{recovered_lines}
use Rattle.inst_chain.specs.inner.Summing.{Tallies}
use Rattle.inst_chain.proofs.SummaryOfLines.{nothing_left, went_on}
use Rattle.inst_chain.proofs.summary.Reading.turn.Goals as goal

pub returns-then-count-eq0-clause-more : goal.returns-then-count-eq0-clause-more
returns-then-count-eq0-clause-more g c = λ file h.
    let buf = c.read_bytes.new.buf in
    let some : 0 < length buf = omega (arith, c.read_bytes.auto.buf, c.deref_mut.ensures.len, c.in_ok-piece.ensures.len) in
    record {
      done = h.done;
      cut = h.cut;
      tallies = h.tallies;
      fits = h.fits;
      ended =
          inl (nothing_left _ _ _ _ h.left_is c.in_ok-count.ensures.bytes.0 (ap (λ (n : ℕ). take n buf) c.if-count-eq0.true)
          (c.in_ok-count.ensures.bytes.1 c.if-count-eq0.true some));
    }

pub returns-clause-more : goal.returns-clause-more
returns-clause-more g c = λ file h.
    let buf = c.read_bytes.new.buf in
    let n = c.in_ok-count.count in
    let piece = take n c.deref.result.now in
    let same : piece ≡ take n buf =
    ap (take n) (c.deref.ensures.value ∙ with_items_is c.in_ok-piece.piece buf (c.read_bytes.auto.buf ∙ c.deref_mut.ensures.len)) in
    let size : length piece ≡ n = ap length same ∙ length-take-le n buf (omega (arith, c.in_ok-count.ensures.bound)) in
    let room : length buf ≡ 65536 = omega (arith, c.read_bytes.auto.buf, c.deref_mut.ensures.len, c.in_ok-piece.ensures.len) in
    went_on file c.args.self.now (record { cutter = c.take.new.self; tally = c.add.new.self }) _ _ piece (recovered_lines c.in_ok-lines.lines.items) h
    (subst (Consumes (g.R.Read.remaining c.args.reader.now) (g.R.Read.remaining c.read_bytes.new.reader)) (sym same) c.in_ok-count.ensures.bytes.0)
    (omega (arith, size, room, c.in_ok-count.ensures.bound, c.at.ensures, c.if-at.false))
    c.in_ok-lines.ensures.at
    c.in_ok-lines.ensures.cut
    (λ done t. subst (λ (l : List ℕ). Tallies c.add.new.self (done ++ recovered_lines l)) c.deref-2.ensures.value (c.in_ok-add.ensures done t))
    c.stops.result (sym c.stops.ensures)
