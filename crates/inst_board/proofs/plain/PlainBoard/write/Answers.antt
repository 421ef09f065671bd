use Rattle.std.proofs.Common.{◌≡◌, ℕ, ◌+◌, ◌*◌, ◌∙◌, ap, sym, subst, arith, refl}
use Rattle.inst_board.specs.declared.plain.Kept.{Kept}
use Rattle.inst_board.specs.declared.plain.Kept.TheVariants.{Written}
use Rattle.inst_board.specs.Standing.{IsPlace}
use Rattle.inst_board.specs.Plain.{Contents, rank_of, Becomes}
use Rattle.inst_board.specs.inner.Plain.{Puts, PutsTerms}
use Rattle.inst_board.proofs.Places.{with_kept, written, contents_written, terms_come}
use Rattle.inst_board.proofs.plain.PlainBoard.write.Goals as goal

pub invariant_of-self : goal.invariant_of-self
invariant_of-self c =
    let b : Contents = record { settings = c.self.inside.settings.value; kept = c.self.inside.words.items } in
    let k = c.args.place in
    let t = c.args.terms.now in
    let new = c.put.new.words.items in
    let place : IsPlace b.settings k = subst (λ (x : Contents). IsPlace x.settings k) (sym c.self.view_is) c.requires in
    let rank : c.rank_of-rank.result ≡ rank_of b.settings k = c.rank_of-rank.ensures ∙ ap (λ (x : ℕ). k.index * x + k.owner) c.self.invariant.1 in
    let puts = subst (λ (n : ℕ). Puts b.kept n (Written t) new) rank (subst (λ (w : Kept). Puts b.kept c.rank_of-rank.result w new) c.new.ensures c.put.ensures.puts) in
    let beside = subst (λ (n : ℕ). PutsTerms c.self.inside.terms.items n t c.put_terms.new.all.items) rank c.put_terms.ensures.puts in (
      contents_written b k (Written t) new c.self.invariant.0 place tt puts,
      c.self.invariant.1,
      c.self.invariant.2,
      c.self.invariant.3,
      omega (arith, c.self.invariant.4, c.put.ensures.room),
      omega (arith, c.self.invariant.5, c.put_terms.ensures.room),
      terms_come b.kept new c.self.inside.terms.items c.put_terms.new.all.items (rank_of b.settings k) (Written t) t puts beside c.self.invariant.6 refl,
    )

pub returns : goal.returns
returns c =
    let b : Contents = record { settings = c.self.inside.settings.value; kept = c.self.inside.words.items } in
    let k = c.args.place in
    let t = c.args.terms.now in
    let new = c.put.new.words.items in
    let place : IsPlace b.settings k = subst (λ (x : Contents). IsPlace x.settings k) (sym c.self.view_is) c.requires in
    let rank : c.rank_of-rank.result ≡ rank_of b.settings k = c.rank_of-rank.ensures ∙ ap (λ (x : ℕ). k.index * x + k.owner) c.self.invariant.1 in
    let puts = subst (λ (n : ℕ). Puts b.kept n (Written t) new) rank (subst (λ (w : Kept). Puts b.kept c.rank_of-rank.result w new) c.new.ensures c.put.ensures.puts) in
    subst (λ (x : Contents). Becomes x k (Written t) (with_kept b new)) c.self.view_is (written b k (Written t) new place puts)
