use Rattle.std.proofs.Common.{◌≡◌, ℕ, Some, slice_get, inl, inr, refl, subst, arith}
use Rattle.std.proofs.lemmas.Bool.{cases_eq}
use Rattle.std.proofs.lemmas.Option.{get_or_from_slice_get, slice_get-get_or, slice_get_within}
use Rattle.clap.specs.Words.{found_of, rows_of}
use Rattle.inst_options.specs.BadOptions.{IsInside}
use Rattle.inst_options.specs.BadOptions.IsBad.{by_range}
use Rattle.inst_options.specs.inner.BadOptions.{range_of}
use Rattle.inst_options.specs.declared.bad_option.Bound.{Bound}
use Rattle.inst_options.proofs.Ranges.{all_inside, ranges_at}
use Rattle.inst_options.proofs.bad_option.number_out_of_range.Goals as goal

pub returns-in-Some : goal.returns-in-Some
returns-in-Some c =
    let items = c.bounds-bound-items.result.now in
    let at = slice_get-get_or items c.loop-bound.bound-index _ c.loop-bound-test.true in
    record {
      given = c.in-Some.ensures.value;
      because = by_range c.loop-bound.bound-index _ (ranges_at items c.loop-bound.bound-index _ c.bounds-bound-items.ensures at) refl refl c.in-Some.ensures.outside;
    }

pub loop-bound-preserved : goal.loop-bound-preserved
loop-bound-preserved c = λ i row less at. elim (cases_eq i c.loop-bound.bound-index) [
  | inl same ↦
      let items = c.bounds-bound-items.result.now in
      let here : slice_get items c.loop-bound.bound-index ≡ Some row = subst (λ (k : ℕ). slice_get items k ≡ Some row) same at in
      subst (λ (b : Bound). IsInside (rows_of (found_of c.args.options.now)) (range_of b)) (get_or_from_slice_get items c.loop-bound.bound-index row _ here) c.in_default.ensures.outside
  | inr other ↦ c.loop-bound.invariant i row (omega (arith, less, other)) at
]

pub returns : goal.returns
returns c =
    all_inside (rows_of (found_of c.args.options.now)) c.bounds-bound-items.result.now c.bounds-bound-items.ensures
    (λ i row at. c.loop-bound.invariant i row (let within = slice_get_within c.bounds-bound-items.result.now i row at in omega arith) at)
