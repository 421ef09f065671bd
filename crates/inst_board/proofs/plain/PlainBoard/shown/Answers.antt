use Rattle.std.proofs.Common.{◌≡◌}
use Rattle.inst_terms.specs.declared.word.Word.TheVariants.{Unused}
use Rattle.inst_board.specs.Plain.{kept_at}
use Rattle.inst_board.proofs.Places.{opened_terms}
use Rattle.inst_board.proofs.plain.PlainBoard.shown.Goals as goal

pub terms-requires : goal.terms-requires
terms-requires c = opened_terms (kept_at c.args.self.now c.args.place) c.word.result c.word.ensures.value (λ (e : c.word.result ≡ Unused). let is = c.in-Pending.is in cc)

pub terms-requires-in-Decided : goal.terms-requires-in-Decided
terms-requires-in-Decided c = opened_terms (kept_at c.args.self.now c.args.place) c.word.result c.word.ensures.value (λ (e : c.word.result ≡ Unused). let is = c.in-Decided.is in cc)
