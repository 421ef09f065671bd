use Rattle.std.proofs.Common.{◌≡◌, [], ◌∷◌, ◌∙◌, ap, sym, subst, arith}
use Rattle.std.specs.Result.{result_ok}
use Rattle.std.specs.Str.{IsUtf8}
use Rattle.inst_base.specs.Text.{reason_of}
use Rattle.inst_terms.proofs.Reasons.{characters, four_characters, utf8_reason, reason_found, finds_reason}
use Rattle.inst_terms.proofs.reason.read_reason.Goals as goal

pub returns-then-number-ge-REASONS : goal.returns-then-number-ge-REASONS
returns-then-number-ge-REASONS c = λ reason. (
  λ e. absurd (cc),
  λ h. let below = (four_characters reason h.0).below in let is = h.1 in absurd (omega arith),
)

pub unreachable-requires : goal.unreachable-requires
unreachable-requires c =
    let is : (c.character_of.result ∷ c.character_of-2.result ∷ c.character_of-3.result ∷ c.character_of-4.result ∷ []) ≡ characters c.args.number = cc in
    c.in-Err.ensures.cases.0 (subst IsUtf8 (sym is) (utf8_reason c.args.number (omega arith)))

pub returns : goal.returns
returns c = λ reason.
    let text : c.in-Ok.text.now ≡ characters c.args.number = c.in-Ok.ensures.cases.0 ∙ (cc) in
    let is = c.ok.ensures.value ∙ ap result_ok (c.new.ensures ∙ ap reason_of text) in (
      λ e. reason_found c.args.number (omega arith) reason (sym is ∙ e),
      λ h. is ∙ finds_reason c.args.number (omega arith) reason h.0 h.1,
    )
