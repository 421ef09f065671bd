use Rattle.std.proofs.Common.{◌<◌, length, sym, ◌∙◌, ap, subst, arith}
use Rattle.inst_log.specs.Layout.{recovered_lines, blocks}
use Rattle.inst_log.proofs.Pieces.{no_blocks, some_blocks}
use Rattle.inst_chain.specs.Verifying.{SealedBy, IsDamagedAfter}
use Rattle.inst_chain.proofs.PlaceOfDamage.{wrong_end, not_sealed_end, sealed_end}
use Rattle.inst_chain.proofs.verifying.end.Goals as goal

pub returns-then-extent-eq0-clause-found : goal.returns-then-extent-eq0-clause-found
returns-then-extent-eq0-clause-found c = λ file k.
    let end = c.extent-extent.ensures file k.done k.reading k.ended in
    record { extent = end.1; marker = no_blocks (recovered_lines file) (omega (arith, end.1.end, c.if-extent-eq0.true)) }

pub returns-then-not-is_sealed-clause-damaged : goal.returns-then-not-is_sealed-clause-damaged
returns-then-not-is_sealed-clause-damaged c = λ file k _.
    let end = c.extent-extent.ensures file k.done k.reading k.ended in
    let some : 0 < length k.done = some_blocks k.done (omega (arith, end.1.end, c.if-extent-eq0.false, ap (λ ls. length (blocks ls)) end.0)) in
    let unsealed = sym c.is_sealed.ensures ∙ c.if-not-is_sealed.true in
    subst (IsDamagedAfter file) (sym c.right.ensures)
    (wrong_end file c.args.checker k.done k.stands end.0 k.fits some (not_sealed_end file c.args.checker k.done k.stands end.0 unsealed))

pub returns-then-not-is_shut-clause-damaged : goal.returns-then-not-is_shut-clause-damaged
returns-then-not-is_shut-clause-damaged c = λ file k _.
    let end = c.extent-extent.ensures file k.done k.reading k.ended in
    let some : 0 < length k.done = some_blocks k.done (omega (arith, end.1.end, c.if-extent-eq0.false, ap (λ ls. length (blocks ls)) end.0)) in
    let open_end = c.if-not-is_shut.ensures file k.done k.reading k.ended in
    subst (IsDamagedAfter file) (sym c.right-then-not-is_shut.ensures)
    (wrong_end file c.args.checker k.done k.stands end.0 k.fits some (λ sealed. open_end sealed.shut))

pub returns-clause-found : goal.returns-clause-found
returns-clause-found c = λ file k.
    let end = c.extent-extent.ensures file k.done k.reading k.ended in
    let sealed = sym c.is_sealed.ensures ∙ c.if-not-is_sealed.false in
    let shut = c.if-not-is_shut.ensures file k.done k.reading k.ended in
    record {
      extent = end.1;
      marker = subst (SealedBy file) (sym c.into_marker.ensures) (sealed_end file c.args.checker k.done k.stands end.0 sealed shut);
    }
