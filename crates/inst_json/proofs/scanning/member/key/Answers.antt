use Rattle.std.proofs.Common.{sym, ap, ◌∙◌, ◌∷◌, arith}
use Rattle.json.specs.Token.{string}
use Rattle.json.specs.Lex.{token}
use Rattle.inst_json.proofs.AsciiFromPlace.{ascii_byte}
use Rattle.inst_json.proofs.TokensAtLinePlaces.{lex_quote, lex_colon}
use Rattle.inst_json.proofs.scanning.member.key.Goals as goal

pub returns-clause-lexed : goal.returns-clause-lexed
returns-clause-lexed c =
    let t = c.args.text.now in
    let name = c.in_ok-name.name.now in
    sym c.skip_space-start.ensures.same
    ∙ lex_quote t c.skip_space-start.result name c.if-start-text.false c.if-text-start-ne34.false c.in_ok-name.ensures.value
    ∙ ap (λ ls. token (string name) ∷ ls) (c.in_ok-name.ensures.rest ∙ sym c.skip_space-at.ensures.same ∙ lex_colon t c.skip_space-at.result c.if-at-text.false c.if-text-at-ne58.false)

pub returns-clause-ascii : goal.returns-clause-ascii
returns-clause-ascii c = λ rest.
    let t = c.args.text.now in
    let colon_here = ascii_byte t c.skip_space-at.result 58 c.if-at-text.false c.if-text-at-ne58.false (omega arith) rest in
    c.skip_space-start.ensures.ascii
    (ascii_byte t c.skip_space-start.result 34 c.if-start-text.false c.if-text-start-ne34.false (omega arith) (c.in_ok-name.ensures.ascii (c.skip_space-at.ensures.ascii colon_here)))
