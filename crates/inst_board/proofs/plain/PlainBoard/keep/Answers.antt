use Rattle.std.proofs.Common.{◌≡◌, ℕ, ◌*◌, ◌+◌, Some, set, ap, sym, subst, ◌∙◌}
use Rattle.inst_terms.specs.declared.terms.Terms.{Terms}
use Rattle.inst_board.specs.declared.plain.Kept.{Kept}
use Rattle.inst_board.specs.Standing.{IsLawful}
use Rattle.inst_board.specs.Plain.{Contents, kept_at, kept_terms, rank_of, Becomes, standing_of}
use Rattle.inst_board.proofs.Places.{with_kept, written, contents_written, written_is_place, kept_puts, terms_stay}
use Rattle.inst_board.proofs.plain.PlainBoard.keep.Goals as goal

pub invariant_of-self : goal.invariant_of-self
invariant_of-self c =
    let b : Contents = record { settings = c.self.inside.settings.value; kept = c.self.inside.words.items } in
    let k = c.args.place in
    let w : Kept = c.args.kept.now in
    let t : Terms = c.requires.written.0 in
    let had : kept_terms (kept_at b k) ≡ Some t = subst (λ (x : Contents). kept_terms (kept_at x k) ≡ Some t) (sym c.self.view_is) c.requires.written.1 in
    let rank : c.rank_of.result ≡ rank_of b.settings k = c.rank_of.ensures ∙ ap (λ (x : ℕ). k.index * x + k.owner) c.self.invariant.1 in
    let lawful : IsLawful b.settings.margin (standing_of w) = subst (λ (x : Contents). IsLawful x.settings.margin (standing_of w)) (sym c.self.view_is) c.requires.lawful in
    let puts = kept_puts b k t c.rank_of.result w c.new.result had rank c.new.ensures in
    let new = set b.kept c.rank_of.result c.new.result in (
      contents_written b k w new c.self.invariant.0 (written_is_place b k t had) lawful puts,
      c.self.invariant.1,
      c.self.invariant.2,
      c.self.invariant.3,
      c.self.invariant.4,
      c.self.invariant.5,
      terms_stay b k new c.self.inside.terms.items w t puts c.self.invariant.6 had c.requires.written.2,
    )

pub returns : goal.returns
returns c =
    let b : Contents = record { settings = c.self.inside.settings.value; kept = c.self.inside.words.items } in
    let k = c.args.place in
    let w : Kept = c.args.kept.now in
    let t : Terms = c.requires.written.0 in
    let had : kept_terms (kept_at b k) ≡ Some t = subst (λ (x : Contents). kept_terms (kept_at x k) ≡ Some t) (sym c.self.view_is) c.requires.written.1 in
    let rank : c.rank_of.result ≡ rank_of b.settings k = c.rank_of.ensures ∙ ap (λ (x : ℕ). k.index * x + k.owner) c.self.invariant.1 in
    let new = set b.kept c.rank_of.result c.new.result in
    subst (λ (x : Contents). Becomes x k w (with_kept b new)) c.self.view_is
    (written b k w new (written_is_place b k t had) (kept_puts b k t c.rank_of.result w c.new.result had rank c.new.ensures))
