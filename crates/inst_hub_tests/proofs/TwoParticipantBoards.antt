-- The boards of two participants, for the tests.
use Rattle.std.proofs.Common.{◌≡◌, ℕ, suc, ◌<◌, Bool, true, ◌&&◌, nat_lt, List, [], ◌∷◌, ◌++◌, length, ap, ◌∙◌, arith, Some, length-append, inr}
use Rattle.std.specs.Prelude.{slice_get}
use Rattle.std.proofs.lemmas.Bool.Decides.{nat_tests}
use Rattle.inst_settings.specs.Settings.{HubSettings, participants, is_participant}
use Rattle.inst_command.specs.declared.outcome.Outcome.{Outcome}
use Rattle.inst_terms.specs.declared.terms.Terms.{Terms}
use Rattle.inst_command.specs.declared.place.Place.{Place}
use Rattle.inst_board.specs.declared.wish.Wish.{Wish}
use Rattle.inst_board.specs.declared.wish.Wish.TheVariants.{Accept, Reject, Expire}
use Rattle.inst_board.specs.declared.look.Look.{Look}
use Rattle.inst_board.specs.declared.look.Look.TheVariants.{Pending, Decided}
use Rattle.inst_board.specs.declared.about.About.TheVariants.{HasTerms}
use Rattle.inst_board.specs.Standing.{Standing, unused, pending, decided, IsPlace, Shows, look_of}
use Rattle.inst_board.specs.Learning.{IsParty}

pub one_only : {A : Type 0} (xs ys : List A) (a : A) → xs ≡ ys ++ a ∷ [] → length xs ≡ 1 → slice_get xs 0 ≡ Some a
one_only {A} xs [] a e n = ap (λ (l : List A). slice_get l 0) e
one_only {A} xs (y ∷ ys) a e n = absurd (let m : length xs ≡ suc (length (ys ++ a ∷ [])) = ap (λ (l : List A). length l) e in let k = length-append ys (a ∷ []) in omega arith)

pub place_is : (s : HubSettings) (k : Place) → k.owner ≡ 0 → participants s ≡ 2 → k.index < s.places → IsPlace s k
place_is s k o p i =
    let a : nat_lt k.owner (participants s) ≡ true = grind (arith, nat_tests) in
    let b : nat_lt k.index s.places ≡ true = grind (arith, nat_tests) in
    ap (λ (x : Bool). x && nat_lt k.index s.places) a ∙ b

pub second_is : (s : HubSettings) → participants s ≡ 2 → is_participant s 1 ≡ true
second_is s p = ap (λ (n : ℕ). nat_lt 1 n) p

pub pending_look : (p : Standing) (l : Look) (t : Terms) (d : ℕ) → l ≡ look_of p → l ≡ Pending t d → pending t d ≡ p
pending_look unused l t d e f = let no : ⊥ = cc in absurd no
pending_look (pending u c) l t d e f = let x : t ≡ u = cc in let y : d ≡ c = cc in ap (λ (z : Terms). pending z d) x ∙ ap (λ (z : ℕ). pending u z) y
pending_look (decided u c o m) l t d e f = let no : ⊥ = cc in absurd no

pub ended_terms : (p : Standing) (l : Look) (t : Terms) (o : Outcome) → l ≡ look_of p → l ≡ Decided t o → Shows p (HasTerms t)
ended_terms unused l t o e f = let no : ⊥ = cc in absurd no
ended_terms (pending u c) l t o e f = let no : ⊥ = cc in absurd no
ended_terms (decided u c z m) l t o e f = let x : t ≡ u = cc in x

pub party_to : (has : ℕ → Type 0) (wish : Wish) (k : Place) (t : Terms) → has t.to → IsParty has wish k t
party_to has Accept k t h = h
party_to has (Reject r) k t h = h
party_to has Expire k t h = inr h
