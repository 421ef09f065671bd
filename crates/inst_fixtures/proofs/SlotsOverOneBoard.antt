-- Several slots over one board: one acts, and the others stay.
use Rattle.std.proofs.Common.{◌≡◌, ◌≢◌, ℕ, zero, suc, ◌<◌, List, [], ◌∷◌, length, set, Some, refl, sym, ap, subst, ◌∙◌, arith, ◌⊎◌, inl, inr}
use Rattle.std.specs.Prelude.{slice_get}
use Rattle.std.proofs.lemmas.Option.{slice_get_within}
use Rattle.inst_settings.specs.Settings.{HubSettings}
use Rattle.inst_board.specs.declared.about.Fact.{Fact}
use Rattle.inst_slot.specs.Book.{Book}
use Rattle.inst_slot.specs.LawfulBoard.{IsLawfulBoard, KeepsOthers}

set_cases : (books : List Book) (i p : ℕ) (v x : Book) → i < length books → slice_get (set books i v) p ≡ Some x → ((p ≡ i) × (x ≡ v)) ⊎ ((p ≢ i) × (slice_get books p ≡ Some x))
set_cases [] i p v x below e = absurd (omega arith)
set_cases (y ∷ books) zero zero v x below e = let is : x ≡ v = cc in inl (refl, is)
set_cases (y ∷ books) zero (suc p) v x below e = inr ((λ same. cc), e)
set_cases (y ∷ books) (suc i) zero v x below e = inr ((λ same. cc), e)
set_cases (y ∷ books) (suc i) (suc p) v x below e = elim (set_cases books i p v x (omega arith) e) [
  | inl own ↦ inl (ap suc own.0, own.1)
  | inr other ↦ inr ((λ same. other.0 (pred same)), other.1)
]
  where
    pred : suc p ≡ suc i → p ≡ i
    pred same = cc

module _ {B : Type 0} (settings : B → HubSettings) (knows : B → Fact → Type 0) (has_role : B → ℕ → Type 0) where
  -- the books of this participant over the board
  abbrev pub Stands : B → ℕ → HubSettings → Book → Type 0
  Stands b who s book = IsLawfulBoard settings knows has_role b book × (book.who ≡ who) × (book.settings ≡ s)

  pub acted : (b c : B) (who : ℕ) (s : HubSettings) (book new : Book) → Stands b who s book → IsLawfulBoard settings knows has_role c new → (new.settings ≡ book.settings) × (new.who ≡ book.who) → Stands c who s new
  acted b c who s book new was lawful same = (lawful, same.1 ∙ was.1, same.0 ∙ was.2)

  pub stayed : (b c : B) (who actor : ℕ) (s : HubSettings) (book : Book) → Stands b who s book → (by : ℕ) → by ≡ actor → KeepsOthers settings knows has_role b by c → who ≢ actor → Stands c who s book
  stayed b c who actor s book was by is kept other = (kept book (λ e. other (sym was.1 ∙ e ∙ is)) was.0, was.1, was.2)

  -- the books after a call
  pub lawful_are : {b c : B} {x y : Book} → y ≡ x → c ≡ b → IsLawfulBoard settings knows has_role b x → IsLawfulBoard settings knows has_role c y
  lawful_are {b} {c} {x} {y} same is lawful =
      subst (λ (d : B). IsLawfulBoard settings knows has_role d y) (sym is) (subst (λ (z : Book). IsLawfulBoard settings knows has_role b z) (sym same) lawful)

  pub others_are : {b c d : B} {who : ℕ} → d ≡ c → KeepsOthers settings knows has_role b who c → KeepsOthers settings knows has_role b who d
  others_are {b} {c} {d} {who} is kept = subst (λ (e : B). KeepsOthers settings knows has_role b who e) (sym is) kept

  -- the books of participants by their numbers
  abbrev pub AreBooks : B → HubSettings → List Book → Type 0
  AreBooks b s books = (p : ℕ) (book : Book) → slice_get books p ≡ Some book → Stands b p s book

  pub three : (b : B) (s : HubSettings) (x y z : Book) → Stands b 0 s x → Stands b 1 s y → Stands b 2 s z → AreBooks b s (x ∷ y ∷ z ∷ [])
  three b s x y z first second third zero book there = let is : x ≡ book = cc in subst (λ (k : Book). Stands b 0 s k) is first
  three b s x y z first second third (suc zero) book there = let is : y ≡ book = cc in subst (λ (k : Book). Stands b 1 s k) is second
  three b s x y z first second third (suc (suc zero)) book there = let is : z ≡ book = cc in subst (λ (k : Book). Stands b 2 s k) is third
  three b s x y z first second third (suc (suc (suc p))) book there = absurd (no p there)
    where
      no : (p : ℕ) → slice_get {X = Book} [] p ≡ Some book → ⊥
      no p e = cc

  -- one slot acted, and those of the others stay
  pub one_acted : (b c : B) (s : HubSettings) (books : List Book) (i : ℕ) (book new : Book) → AreBooks b s books → slice_get books i ≡ Some book
      → IsLawfulBoard settings knows has_role c new → KeepsOthers settings knows has_role b book.who c → (new.settings ≡ book.settings) × (new.who ≡ book.who)
      → AreBooks c s (set books i new)
  one_acted b c s books i book new are there lawful others same p other at = elim (set_cases books i p new other (slice_get_within books i book there) at) [
    | inl own ↦ subst (λ (k : Book). Stands c p s k) (sym own.1) (subst (λ (q : ℕ). Stands c q s new) (sym own.0) (acted b c i s book new (are i book there) lawful same))
    | inr away ↦ stayed b c p i s other (are p other away.1) book.who (are i book there).1 others away.0
  ]
