use Rattle.std.proofs.Common.{rules, ℕ, List, ap, sym, ◌∙◌, subst, Option}
use Rattle.inst_board.specs.declared.look.Look.{Look}
use Rattle.inst_slot.specs.declared.resolution.Resolution.{Resolution}
use Rattle.inst_slot.specs.inner.Answering.{book_with_spots, IsOwnAt}
use Rattle.inst_slot.specs.inner.Resolutions.{GivesResolution}
use Rattle.inst_slot.specs.Telling.{resolution}
use Rattle.inst_slot.proofs.Resolutions.{no_resolution}
use Rattle.inst_slot.proofs.resolution.resolution_of.Goals as goal

pub returns-in_err-found : goal.returns-in_err-found
returns-in_err-found c =
    let l = c.args.ledger.now in
    let t = c.in-Decided.terms in
    let e = c.in_err-found.ensures in
    subst (λ (r : Option Resolution). GivesResolution l c.args.place (resolution (book_with_spots l.book c.args.spots.now) c.args.place c.args.look.now) r) (sym c.from_residual.ensures)
    (ap (λ (x : Look). resolution (book_with_spots l.book c.args.spots.now) c.args.place x) c.in-Decided.is
    ∙ no_resolution l c.args.spots.now c.args.place t c.in-Decided.outcome e.right c.requires.spots (c.requires.own t c.in-Decided.outcome c.in-Decided.is) e.found)

pub returns : goal.returns
returns c =
    let l = c.args.ledger.now in
    let k = c.args.place in
    let t = c.in-Decided.terms in
    let found = c.in_ok-found.ensures.found in
    record {
      is = search rules;
      there = found.2;
      owner = found.0;
      own = λ mine. subst (λ (id : List ℕ). IsOwnAt l.book id k) (sym found.1) (c.requires.own t c.in-Decided.outcome c.in-Decided.is (sym found.0 ∙ mine));
    }
