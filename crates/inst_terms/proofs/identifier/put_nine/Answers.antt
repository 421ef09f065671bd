use Rattle.std.proofs.Common.{◌≡◌, ℕ, ◌+◌, ◌∙◌, ap, sym, inl, inr, arith, get_or, set}
use Rattle.std.proofs.lemmas.Bool.{cases_eq}
use Rattle.std.proofs.lemmas.List.{get_or-set_same, get_or-set_other}
use Rattle.std.proofs.Math.ListN.{length-set}
use Rattle.inst_terms.specs.inner.Identifier.{digit}
use Rattle.inst_terms.proofs.identifier.put_nine.Goals as goal

pub loop-place-preserved : goal.loop-place-preserved
loop-place-preserved c =
    let start = c.args.start in
    let p = c.loop-place.place in
    let cs = c.loop-place.characters in
    let new = c.digit.result in
    let held = c.loop-place.invariant in
    let room = held.0 in (
      length-set cs (start + p) new ∙ room,
      λ k below.
          elim (cases_eq k p) [
            | inl e ↦ ap (λ (x : ℕ). get_or (set cs (start + p) new) (start + x) 0) e ∙ get_or-set_same cs (start + p) new 0 (omega (arith, c.requires, room))
                ∙ c.digit.ensures ∙ sym (ap (λ (x : ℕ). digit c.args.word x) e)
            | inr ne ↦ get_or-set_other cs (start + p) (start + k) new 0 (λ (e : start + k ≡ start + p). ne (omega arith)) ∙ held.1 k (omega arith)
          ],
      λ k below. get_or-set_other cs (start + p) k new 0 (λ (e : k ≡ start + p). let no : ⊥ = omega arith in no) ∙ held.2 k below,
      λ k behind. get_or-set_other cs (start + p) k new 0 (λ (e : k ≡ start + p). let within = c.loop-place-test.true in let no : ⊥ = omega arith in no) ∙ held.3 k behind,
    )
