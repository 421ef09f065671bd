use Rattle.std.proofs.Common.{◌-◌, ◌/◌, ◌^◌, drop, length, not, sym, ap, ◌∙◌, arith}
use Rattle.std.proofs.lemmas.List.{length-drop}
use lib.Count.{count_trailing_zeros}
use Rattle.inst_json.specs.inner.Scalar.{is_text}
use Rattle.inst_json.proofs.Runs.{not-not, run_bound, run_through, run_stops, rest_through, rest_stops, mask_last}
use Rattle.inst_json.proofs.scanning.parts.plain_end.Goals as goal

pub returns-then-found-ne0-clause-value : goal.returns-then-found-ne0-clause-value
returns-then-found-ne0-clause-value c =
    let found = c.stops-found in
    let run = run_stops (λ x. not (is_text x)) is_text (λ x. not-not (is_text x)) c.args.text.now c.loop-at.at 16 (omega arith) (omega arith) (omega (arith, found.ensures)) ∙ ap (count_trailing_zeros 64) (sym found.ensures) in
    omega (arith, run, c.loop-at.invariant.0)

pub returns-then-found-ne0-clause-within : goal.returns-then-found-ne0-clause-within
returns-then-found-ne0-clause-within c =
    let found = c.stops-found in
    let run = run_stops (λ x. not (is_text x)) is_text (λ x. not-not (is_text x)) c.args.text.now c.loop-at.at 16 (omega arith) (omega arith) (omega (arith, found.ensures)) ∙ ap (count_trailing_zeros 64) (sym found.ensures) in
    omega (arith, run, run_bound is_text c.args.text.now c.loop-at.at c.loop-at.invariant.1)

pub loop-at-preserved : goal.loop-at-preserved
loop-at-preserved c =
    let run = run_through (λ x. not (is_text x)) is_text (λ x. not-not (is_text x)) c.args.text.now c.loop-at.at 16 (omega arith) (omega (arith, c.stops-found.ensures)) in
    (omega (arith, run, c.loop-at.invariant.0), omega arith)

pub returns-then-found-eq0-clause-value : goal.returns-then-found-eq0-clause-value
returns-then-found-eq0-clause-value c =
    let d = c.args.text.now in
    let at = c.loop-at.at in
    let last = length d - 16 in
    let mask = mask_last (λ x. not (is_text x)) d last at 16 (omega arith) (omega arith) in
    let none = sym mask ∙ ap (λ n. n / 2 ^ (at - last)) (sym c.stops.ensures) ∙ c.if-found-eq0.true in
    let rest = rest_through (λ x. not (is_text x)) is_text (λ x. not-not (is_text x)) (drop at d) none in
    omega (arith, rest, length-drop at d, c.loop-at.invariant)

pub returns-clause-value : goal.returns-clause-value
returns-clause-value c =
    let d = c.args.text.now in
    let at = c.loop-at.at in
    let last = length d - 16 in
    let mask = mask_last (λ x. not (is_text x)) d last at 16 (omega arith) (omega arith) in
    let found = ap (λ n. n / 2 ^ (at - last)) c.stops.ensures ∙ mask in
    let rest = rest_stops (λ x. not (is_text x)) is_text (λ x. not-not (is_text x)) (drop at d) (omega (arith, length-drop at d)) (omega (arith, found)) in
    omega (arith, rest, ap (count_trailing_zeros 64) found, c.loop-at.invariant)

pub returns-clause-within : goal.returns-clause-within
returns-clause-within c =
    let d = c.args.text.now in
    let at = c.loop-at.at in
    let last = length d - 16 in
    let mask = mask_last (λ x. not (is_text x)) d last at 16 (omega arith) (omega arith) in
    let found = ap (λ n. n / 2 ^ (at - last)) c.stops.ensures ∙ mask in
    let rest = rest_stops (λ x. not (is_text x)) is_text (λ x. not-not (is_text x)) (drop at d) (omega (arith, length-drop at d)) (omega (arith, found)) in
    omega (arith, rest, ap (count_trailing_zeros 64) found, run_bound is_text d at c.loop-at.invariant.1)
