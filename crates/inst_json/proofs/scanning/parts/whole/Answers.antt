use Rattle.std.proofs.Common.{IsAscii, drop, decimal, sym, subst}
use Rattle.std.proofs.lemmas.Str.{IsAscii-append}
use Rattle.std.proofs.lemmas.Fmt.{IsAscii-decimal}
use Rattle.inst_json.proofs.TokensAtLinePlaces.{lex_whole}
use Rattle.inst_json.proofs.scanning.parts.whole.Goals as goal

pub returns-then-ends_number-clause-lexed : goal.returns-then-ends_number-clause-lexed
returns-then-ends_number-clause-lexed c =
    let read = c.in_ok-value.ensures in
    lex_whole c.args.text.now c.args.from c.in_ok-value.end c.in_ok-value.value read.small read.value c.if-end-text.true (c.ends_number.ensures c.if-ends_number.true)

pub returns-then-ends_number-clause-ascii : goal.returns-then-ends_number-clause-ascii
returns-then-ends_number-clause-ascii c = λ rest.
    let read = c.in_ok-value.ensures in
    let v = c.in_ok-value.value in
    subst IsAscii (sym read.value) (IsAscii-append (decimal v) (drop c.in_ok-value.end c.args.text.now) (IsAscii-decimal v read.small) rest)
