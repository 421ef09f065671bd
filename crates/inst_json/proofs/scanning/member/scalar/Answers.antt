use Rattle.std.proofs.Common.{sym, ap, ◌∙◌, ◌∷◌, refl, decimal, arith}
use Rattle.json.specs.Token as token_spec
use Rattle.json.specs.Lex.{token}
use Rattle.serde_json.specs.Data as value_spec
use Rattle.serde_json.proofs.Numbers.{number_of-decimal}
use Rattle.inst_json.proofs.AsciiFromPlace.{ascii_byte}
use Rattle.inst_json.proofs.TokensAtLinePlaces.{lex_quote}
use Rattle.inst_json.proofs.OrderedMembers.{IsScalar-string, IsScalar-number}
use Rattle.inst_json.proofs.scanning.member.scalar.Goals as goal

pub returns-then-text-start-eq34-clause-lexed : goal.returns-then-text-start-eq34-clause-lexed
returns-then-text-start-eq34-clause-lexed c =
    let t = c.args.text.now in
    let word = c.in_ok-word.word.now in (
      token_spec.string word,
      value_spec.string word,
      IsScalar-string word,
      refl,
      sym c.skip_space-start.ensures.same
          ∙ lex_quote t c.skip_space-start.result word c.if-start-text.true c.if-text-start-eq34.true c.in_ok-word.ensures.value
          ∙ ap (λ ls. token (token_spec.string word) ∷ ls) c.in_ok-word.ensures.rest,
    )

pub returns-clause-lexed : goal.returns-clause-lexed
returns-clause-lexed c =
    let v = c.in_ok-value.value in (
      token_spec.number (decimal v),
      value_spec.number (value_spec.unsigned v),
      IsScalar-number (decimal v) v (number_of-decimal v c.in_ok-value.ensures.small),
      refl,
      sym c.skip_space-start.ensures.same ∙ c.in_ok-value.ensures.lexed,
    )

pub returns-then-text-start-eq34-clause-ascii : goal.returns-then-text-start-eq34-clause-ascii
returns-then-text-start-eq34-clause-ascii c = λ rest.
    c.skip_space-start.ensures.ascii
    (ascii_byte c.args.text.now c.skip_space-start.result 34 c.if-start-text.true c.if-text-start-eq34.true (omega arith) (c.in_ok-word.ensures.ascii rest))

pub returns-clause-ascii : goal.returns-clause-ascii
returns-clause-ascii c = λ rest. c.skip_space-start.ensures.ascii (c.in_ok-value.ensures.ascii rest)
