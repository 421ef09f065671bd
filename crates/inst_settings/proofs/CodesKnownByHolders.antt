-- A code is known by the holders of its mark.
use Rattle.std.proofs.Common.{◌≡◌, ◌≢◌, ℕ, zero, suc, ◌<◌, Bool, true, false, not, nat_eq, List, [], ◌∷◌, length, get_or, Some, None, refl, sym, ap, ◌∙◌, arith, lt-ltb, ltb}
use Rattle.std.proofs.lemmas.Bool.{and_parts, or_parts, not-true, false≢true}
use Rattle.std.proofs.lemmas.Bool.Decides.{nat_tests}
use Rattle.std.proofs.lemmas.List.Sums.{position_or_len_is}
use Rattle.std.proofs.lemmas.Slice.Eq.{bytes_eq-Decides}
use Rattle.std.specs.Bool.{then_some}
use Rattle.std.specs.List.{list_any}
use Rattle.inst_settings.specs.Settings.{same_text}
use Rattle.inst_settings.specs.Codes.{index_of}
use Rattle.inst_settings.specs.Lawful.{are_different}
use Rattle.inst_settings.specs.Finder.{holders_of, is_among, TellsAll}
use Rattle.inst_settings.specs.declared.finder.Holders.{Holders}
use Rattle.inst_settings.specs.declared.finder.Holders.TheVariants.{Nobody, Only}

none_at : (p : List ℕ → Bool) (codes : List (List ℕ)) (i : ℕ) → list_any p codes ≡ false → i < length codes → p (get_or codes i []) ≡ false
none_at p [] i none h = absurd (omega arith)
none_at p (first ∷ rest) zero none h = (or_parts (p first) (list_any p rest) none).0
none_at p (first ∷ rest) (suc i) none h = none_at p rest i (or_parts (p first) (list_any p rest) none).1 (omega arith)

-- an earlier code is another
earlier : (codes : List (List ℕ)) (k i : ℕ) → are_different codes ≡ true → k < i → i < length codes → same_text (get_or codes i []) (get_or codes k []) ≡ false
earlier [] k i different less h = absurd (omega arith)
earlier (first ∷ rest) k zero different less h = absurd (omega arith)
earlier (first ∷ rest) zero (suc i) different less h =
    none_at (λ other. same_text other first) rest i (not-true _ (and_parts (not (list_any (λ other. same_text other first) rest)) (are_different rest) different).0) (omega arith)
earlier (first ∷ rest) (suc k) (suc i) different less h =
    earlier rest k i (and_parts (not (list_any (λ other. same_text other first) rest)) (are_different rest) different).1 (omega arith) (omega arith)

pub number_known : (codes : List (List ℕ)) (code : List ℕ) (i : ℕ) → are_different codes ≡ true → i < length codes → get_or codes i [] ≡ code → Some i ≡ index_of code codes
number_known codes code i different h is =
    let found = position_or_len_is (same_text code) codes i [] (omega arith)
    (λ k less. ap (λ c. same_text c (get_or codes k [])) (sym is) ∙ earlier codes k i different less h)
    (λ l. (bytes_eq-Decides code (get_or codes i [])).1 (sym is)) in
    rw (found, lt-ltb i (length codes) h) refl

-- what isn't true is false
false_where : (b : Bool) → (b ≡ true → ⊥) → b ≡ false
false_where true untrue = absurd (untrue refl)
false_where false untrue = refl

-- a code that is nowhere has no number
pub none_known : (codes : List (List ℕ)) (code : List ℕ) → ((i : ℕ) → i < length codes → code ≡ get_or codes i [] → ⊥) → None ≡ index_of code codes
none_known codes code nowhere =
    let found = position_or_len_is (same_text code) codes (length codes) [] (omega arith)
    (λ k less. false_where _ (λ equal. nowhere k less ((bytes_eq-Decides code (get_or codes k [])).0 equal)))
    (λ l. absurd (omega arith)) in
    let past : ltb (length codes) (length codes) ≡ false = grind (arith, nat_tests) in
    rw (found, past) refl

-- at each place of a code, its number is among the holders of the code's mark
held : (codes : List (List ℕ)) (table : List Holders) (code : List ℕ) (i : ℕ) → TellsAll codes table → i < length codes → code ≡ get_or codes i [] → is_among i (holders_of code table) ≡ true
held codes table code i tells h is = ap (λ c. is_among i (holders_of c table)) is ∙ tells i h

-- a code whose mark nobody holds
pub nobody_known : (codes : List (List ℕ)) (table : List Holders) (code : List ℕ) → TellsAll codes table → holders_of code table ≡ Nobody → None ≡ index_of code codes
nobody_known codes table code tells nobody =
    none_known codes code (λ i h is. false≢true (ap (is_among i) (sym nobody) ∙ held codes table code i tells h is))

-- a code whose mark one participant holds who has another code
pub other_known : (codes : List (List ℕ)) (table : List Holders) (code : List ℕ) (number : ℕ) → TellsAll codes table → holders_of code table ≡ Only number → (number < length codes → get_or codes number [] ≢ code) → None ≡ index_of code codes
other_known codes table code number tells only other =
    none_known codes code (λ i h is.
    let same : nat_eq number i ≡ true = ap (is_among i) (sym only) ∙ held codes table code i tells h is in
    let equal : i ≡ number = grind (arith, nat_tests) in
    other (omega arith) (sym (is ∙ ap (λ n. get_or codes n []) equal)))

-- the number of the one who holds the mark, if it has the code
pub only_known : (codes seen : List (List ℕ)) (table : List Holders) (code : List ℕ) (number : ℕ) (has : Bool) → seen ≡ codes → TellsAll seen table → holders_of code table ≡ Only number
    → (has ≡ true → Some number ≡ index_of code codes) → (has ≡ false → number < length codes → get_or codes number [] ≢ code) → then_some has number ≡ index_of code codes
only_known codes seen table code number true same tells only here elsewhere = here refl
only_known codes seen table code number false same tells only here elsewhere =
    other_known codes table code number (rw same at tells) only (elsewhere refl)
