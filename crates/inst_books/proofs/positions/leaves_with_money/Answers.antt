use Rattle.std.proofs.Common.{◌≡◌, ◌∙◌, ◌<◌, ℕ, List, [], length, get_or, None, below_more, sym, ap, subst, arith, not, is_some}
use Rattle.std.proofs.lemmas.Bool.{false≢true}
use Rattle.inst_settings.specs.Codes.{index_of}
use Rattle.inst_books.proofs.CarriedPositions.{element}
use Rattle.inst_books.proofs.positions.leaves_with_money.Goals.{else-is_none-via-then-is_none+else-positions-who-gt0, else-is_none-via-else-is_none}
use Rattle.inst_books.proofs.positions.leaves_with_money.Goals as goal

pub loop-who-preserved : goal.loop-who-preserved
loop-who-preserved c = below_more _ _ c.loop-who.invariant here where
  items : c.codes-code-items.result.now ≡ c.args.old.now.codes
  items = c.codes-code-items.ensures

  within : c.loop-who.who < length c.args.old.now.codes
  within = subst (λ xs. c.loop-who.who < length xs) items c.loop-who-test.true

  code : c.code-item.result ≡ get_or c.args.old.now.codes c.loop-who.who []
  code = element c.args.old.now.codes c.loop-who.who c.code-item.result within (subst (λ (xs : List (List ℕ)). c.code-item.result ≡ get_or xs c.loop-who.who c.code-item.result) items c.code-item.is)

  here : index_of (get_or c.args.old.now.codes c.loop-who.who []) c.args.new.now.codes ≡ None → get_or c.args.positions.now c.loop-who.who 0 ≡ 0
  here none =
      elim c.else-is_none.branch [
        | else-is_none-via-then-is_none+else-positions-who-gt0 w ↦ omega (arith, w.if-positions-who-gt0.false)
        | else-is_none-via-else-is_none w ↦
            let found : c.index_of.result ≡ None = c.index_of.ensures ∙ ap (λ x. index_of x c.args.new.now.codes) code ∙ none in
            absurd (false≢true (sym (ap is_some found) ∙ c.is_none.ensures ∙ ap not w.if-is_none.false))
      ]
