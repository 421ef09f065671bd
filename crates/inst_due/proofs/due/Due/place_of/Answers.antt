use Rattle.std.proofs.Common.{◌≡◌, ℕ, ◌-◌, ◌<◌, List, length, Some, Err, get_or, refl, sym, ◌∙◌, ap, subst, arith}
use Rattle.std.specs.Prelude.{slice_get}
use Rattle.std.specs.List.Sorted.{IsSearchInRange}
use Rattle.std.proofs.lemmas.Option.{slice_get_read}
use Rattle.inst_due.specs.inner.Due.{IsRankOf}
use Rattle.inst_due.proofs.Pairs.{at_end, found_place, before_if_less, same_if_equal}
use Rattle.inst_due.proofs.due.Due.place_of.Goals as goal

-- where the last pair stands, by how many there are
last_at : (pairs : List (ℕ × ℕ)) (n len : ℕ) (last : ℕ × ℕ) → n ≡ len → len ≡ length pairs → 0 < len → last ≡ get_or pairs (len - 1) last → slice_get pairs (n - 1) ≡ Some last
last_at pairs n len last is end some read = slice_get_read pairs n (n - 1) last (is ∙ end) (omega arith) (read ∙ ap (λ (k : ℕ). get_or pairs (k - 1) last) (sym is))

pub returns-in-Less : goal.returns-in-Less
returns-in-Less c =
    let row = c.self.inside.pairs in
    let last = c.in-Some.last.now in
    let back = c.in-Some.ensures in
    subst (λ (pairs : List (ℕ × ℕ)). IsRankOf pairs c.args.pair.now (Err c.len.result)) c.self.view_is
    (at_end row.items c.len.result last c.args.pair.now c.self.invariant (c.len.ensures ∙ row.ok.0)
    (last_at row.items c.len.result row.len last c.len.ensures row.ok.0 (back.variant.0 refl) back.lookup)
    (before_if_less last c.args.pair.now (sym c.cmp.ensures ∙ c.in-Less.is)))

pub returns-in-Equal : goal.returns-in-Equal
returns-in-Equal c =
    let row = c.self.inside.pairs in
    let last = c.in-Some.last.now in
    let back = c.in-Some.ensures in
    let n = c.len-in-Equal.result in
    ap (λ (pairs : List (ℕ × ℕ)). slice_get pairs (n - 1)) (sym c.self.view_is)
    ∙ last_at row.items n row.len last c.len-in-Equal.ensures row.ok.0 (back.variant.0 refl) back.lookup
    ∙ ap (λ (pair : ℕ × ℕ). Some pair) (same_if_equal last c.args.pair.now (sym c.cmp.ensures ∙ c.in-Equal.is))

pub returns-in-Greater-2 : goal.returns-in-Greater-2
returns-in-Greater-2 c =
    let row = c.self.inside.pairs in
    subst (λ (pairs : List (ℕ × ℕ)). IsRankOf pairs c.args.pair.now c.binary_search.result) c.self.view_is
    (found_place row.items c.args.pair.now c.binary_search.result c.self.invariant
    (subst (IsSearchInRange c.binary_search.result) row.ok.0 c.binary_search.ensures.bound) c.binary_search.ensures.position)
