use Rattle.std.proofs.Common.{◌≡◌, ◌+◌, ◌-◌, suc, ℕ, List, ap, sym, ◌∙◌, arith, drop, take, get_or, Some, subst, IsAscii}
use Rattle.std.proofs.lemmas.List.{get_or-drop, drop-drop, take-append-drop}
use Rattle.std.proofs.lemmas.Str.{IsAscii-append, IsUtf8-from_ascii}
use Rattle.std.specs.List.{prefix_len}
use Rattle.inst_json.specs.inner.Scalar.{is_text}
use Rattle.json.specs.Lex.{lex, between}
use Rattle.inst_json.proofs.AsciiFromPlace.{ascii_byte}
use Rattle.inst_json.proofs.TokensAtLinePlaces.{string_at, ascii_at}
use Rattle.inst_json.proofs.scanning.parts.string.Goals as goal

-- where the run of plain bytes ends
quoted : (t : List ℕ) (i j : ℕ) → j ≡ i + prefix_len is_text (drop i t) → get_or t j 0 ≡ 34 → get_or (drop i t) (prefix_len is_text (drop i t)) 0 ≡ 34
quoted t i j e is = get_or-drop i t _ 0 ∙ ap (λ k. get_or t k 0) (sym e) ∙ is

pub returns-then-text-end-eq34-clause-value : goal.returns-then-text-end-eq34-clause-value
returns-then-text-end-eq34-clause-value c =
    let t = c.args.text.now in
    let xs = drop c.args.from t in
    let j = c.plain_end-end.result in
    let at = c.plain_end-end.ensures.value in
    let n : prefix_len is_text xs ≡ j - c.args.from = omega (arith, at) in
    (string_at xs (quoted t c.args.from j at c.if-text-end-eq34.true)).0 ∙ ap (λ k. Some (take k xs)) n ∙ ap Some (sym c.from_utf8_unchecked-word.ensures)

pub returns-then-text-end-eq34-clause-rest : goal.returns-then-text-end-eq34-clause-rest
returns-then-text-end-eq34-clause-rest c =
    let t = c.args.text.now in
    let xs = drop c.args.from t in
    let j = c.plain_end-end.result in
    let at = c.plain_end-end.ensures.value in
    let n : c.args.from + suc (prefix_len is_text xs) ≡ j + 1 = omega (arith, at) in
    (string_at xs (quoted t c.args.from j at c.if-text-end-eq34.true)).1
    ∙ ap (lex between) (drop-drop (suc (prefix_len is_text xs)) c.args.from t) ∙ ap (λ k. lex between (drop k t)) n

pub from_utf8_unchecked-word-requires : goal.from_utf8_unchecked-word-requires
from_utf8_unchecked-word-requires c =
    let t = c.args.text.now in
    let xs = drop c.args.from t in
    let j = c.plain_end-end.result in
    let at = c.plain_end-end.ensures.value in
    let n : prefix_len is_text xs ≡ j - c.args.from = omega (arith, at) in
    IsUtf8-from_ascii _ (subst (λ k. IsAscii (take k xs)) n (ascii_at xs))

pub returns-then-text-end-eq34-clause-ascii : goal.returns-then-text-end-eq34-clause-ascii
returns-then-text-end-eq34-clause-ascii c = λ rest.
    let t = c.args.text.now in
    let xs = drop c.args.from t in
    let n = prefix_len is_text xs in
    let j = c.plain_end-end.result in
    let at = c.plain_end-end.ensures.value in
    let behind : drop n xs ≡ drop j t = drop-drop n c.args.from t ∙ ap (λ k. drop k t) (sym at) in
    let quote = ascii_byte t j 34 c.if-end-text.true c.if-text-end-eq34.true (omega arith) rest in
    subst IsAscii (take-append-drop n xs) (IsAscii-append (take n xs) (drop n xs) (ascii_at xs) (subst IsAscii (sym behind) quote))
