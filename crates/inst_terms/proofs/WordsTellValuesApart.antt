-- Different values have different words.
use Rattle.std.proofs.Common.{◌≡◌, ℕ, ◌/◌, ◌%◌, ◌<◌, ◌≤◌, List, length, get_or, refl, sym, ap, ◌∙◌, arith}
use Rattle.std.specs.Prelude.{IsTrue}
use Rattle.std.proofs.lemmas.List.{get_or_past}
use Rattle.std.proofs.lemmas.Grind.{same_number_lists}
use Rattle.inst_base.specs.Text.{is_identifier, is_reason}
use Rattle.inst_command.specs.declared.outcome.Outcome.TheVariants.{Accepted, Rejected, TimedOut}
use Rattle.inst_terms.specs.declared.terms.Terms.{Terms}
use Rattle.inst_terms.specs.declared.word.Word.{Word}
use Rattle.inst_terms.specs.declared.word.Word.TheVariants.{Unused, Pending, Decided}
use Rattle.inst_terms.specs.Identifier.{identifier_words}
use Rattle.inst_terms.specs.inner.Identifier.{digit}
use Rattle.inst_terms.specs.Reason.{reason_number}
use Rattle.inst_terms.specs.Terms.{IsTerms, words_of}
use Rattle.inst_terms.specs.Word.{IsWord, word_number}
use Rattle.inst_terms.proofs.Identifiers.{latin_text, latin_at, character_at, nat_le_of}
use Rattle.inst_terms.proofs.Reasons.{characters, four_characters}

same_characters : (a b : List ℕ) → IsTrue (is_identifier a) → IsTrue (is_identifier b) → identifier_words a ≡ identifier_words b → (k : ℕ) → k < 36 → get_or a k 0 ≡ get_or b k 0
same_characters a b ha hb same k below = sym (character_at a ha k below) ∙ ap (λ (ws : List ℕ). digit (get_or ws (k / 9) 0) (k % 9)) same ∙ character_at b hb k below

no_longer : (a b : List ℕ) → IsTrue (is_identifier a) → IsTrue (is_identifier b) → ((k : ℕ) → k < 36 → get_or a k 0 ≡ get_or b k 0) → length a ≤ length b
no_longer a b ha hb same =
    let form = latin_text a ha in
    nat_le_of (length a) (length b) (λ less. let k = length b in
    let most = form.most in
    let e = same k (omega arith) in let p = latin_at a form.latin k less in let z = get_or_past b k 0 (omega arith) in absurd (omega arith))

same_identifier : (a b : List ℕ) → IsTrue (is_identifier a) → IsTrue (is_identifier b) → identifier_words a ≡ identifier_words b → a ≡ b
same_identifier a b ha hb same =
    let each = same_characters a b ha hb same in
    let less = no_longer a b ha hb each in
    let more = no_longer b a hb ha (λ k below. sym (each k below)) in
    let most = (latin_text a ha).most in
    same_number_lists a b (omega arith) (λ k below. each k (omega arith))

abbrev made : ℕ → ℕ → List ℕ → Terms
made to cents id = record { to = to; cents = cents; id = id }

pub terms_apart : (a b : Terms) → IsTerms a → IsTerms b → words_of a ≡ words_of b → a ≡ b
terms_apart a b ha hb same =
    let money = ap (λ (ws : List ℕ). get_or ws 0 0) same in
    let rest : identifier_words a.id ≡ identifier_words b.id = cc in
    let la = ha.beneficiary in let lb = hb.beneficiary in
    let to : a.to ≡ b.to = omega arith in
    let cents : a.cents ≡ b.cents = omega arith in
    let id = same_identifier a.id b.id ha.identifier hb.identifier rest in
    ap (λ (x : ℕ). made x a.cents a.id) to ∙ ap (λ (x : ℕ). made b.to x a.id) cents ∙ ap (λ (x : List ℕ). made b.to b.cents x) id

same_reason : (r s : List ℕ) → IsTrue (is_reason r) → IsTrue (is_reason s) → reason_number r ≡ reason_number s → r ≡ s
same_reason r s hr hs same = sym (four_characters r hr).again ∙ ap characters same ∙ (four_characters s hs).again

pub words_apart : (v w : Word) → IsWord v → IsWord w → word_number v ≡ word_number w → v ≡ w
words_apart Unused Unused hv hw same = refl
words_apart Unused (Pending e) hv hw same = let h = hw.0 in absurd (omega arith)
words_apart Unused (Decided Accepted u) hv hw same = absurd (omega arith)
words_apart Unused (Decided (Rejected s) u) hv hw same = absurd (omega arith)
words_apart Unused (Decided TimedOut u) hv hw same = absurd (omega arith)
words_apart (Pending d) Unused hv hw same = let h = hv.0 in absurd (omega arith)
words_apart (Pending d) (Pending e) hv hw same = ap Pending (omega arith)
words_apart (Pending d) (Decided Accepted u) hv hw same = absurd (omega arith)
words_apart (Pending d) (Decided (Rejected s) u) hv hw same = absurd (omega arith)
words_apart (Pending d) (Decided TimedOut u) hv hw same = absurd (omega arith)
words_apart (Decided Accepted t) Unused hv hw same = absurd (omega arith)
words_apart (Decided Accepted t) (Pending e) hv hw same = absurd (omega arith)
words_apart (Decided Accepted t) (Decided Accepted u) hv hw same = ap (λ (x : ℕ). Decided Accepted x) (omega arith)
words_apart (Decided Accepted t) (Decided (Rejected s) u) hv hw same = absurd (omega arith)
words_apart (Decided Accepted t) (Decided TimedOut u) hv hw same = absurd (omega arith)
words_apart (Decided (Rejected r) t) Unused hv hw same = absurd (omega arith)
words_apart (Decided (Rejected r) t) (Pending e) hv hw same = absurd (omega arith)
words_apart (Decided (Rejected r) t) (Decided Accepted u) hv hw same = absurd (omega arith)
words_apart (Decided (Rejected r) t) (Decided (Rejected s) u) hv hw same =
    let br = (four_characters r hv.0).below in let bs = (four_characters s hw.0).below in
    let moment : t ≡ u = omega arith in
    let number : reason_number r ≡ reason_number s = omega arith in
    let reason = same_reason r s hv.0 hw.0 number in cc
words_apart (Decided (Rejected r) t) (Decided TimedOut u) hv hw same = absurd (omega arith)
words_apart (Decided TimedOut t) Unused hv hw same = absurd (omega arith)
words_apart (Decided TimedOut t) (Pending e) hv hw same = absurd (omega arith)
words_apart (Decided TimedOut t) (Decided Accepted u) hv hw same = absurd (omega arith)
words_apart (Decided TimedOut t) (Decided (Rejected s) u) hv hw same = absurd (omega arith)
words_apart (Decided TimedOut t) (Decided TimedOut u) hv hw same = ap (λ (x : ℕ). Decided TimedOut x) (omega arith)
