-- A history forwards and takes each transfer once, so that two such events of one transfer are the same; and each
-- arrival was forwarded.
use Rattle.std.proofs.Common.{◌≡◌, ℕ, zero, suc, ◌+◌, ◌≤◌, Bool, true, false, cond, List, [], ◌∷◌, count_by, inl, inr, refl, sym, ap, ◌∙◌, subst, arith, Some}
use Rattle.std.specs.Prelude.{Contains, map, slice_get}
use Rattle.std.specs.List.{filter}
use Rattle.std.proofs.lemmas.List.Elements.{Contains-append_right}
use Rattle.std.proofs.lemmas.List.Sums.{sum_by-cons}
use Rattle.std.proofs.lemmas.Option.{slice_get-get_or}
use Rattle.inst_settings.specs.Settings.{HubSettings}
use Rattle.inst_command.specs.declared.entry.Entry.{Entry}
use Rattle.inst_board.specs.declared.about.Fact.{Fact}
use Rattle.inst_journal.specs.declared.event.Event.{Event}
use Rattle.inst_journal.specs.declared.event.Event.TheVariants.{Funded, Defunded, Taken, Forwarded, Booked, Fetched, Opened}
use Rattle.inst_journal.specs.Opened.{is_live}
use Rattle.inst_journal.specs.Reply.{inbox, entry_of}
use Rattle.inst_slot.specs.declared.arrival.Arrival.{Arrival}
use Rattle.inst_slot.specs.Book.{Book}
use Rattle.inst_slot.specs.LawfulBoard.{IsLawfulBoard}
use Rattle.inst_slot.proofs.LiveTransfersAfterEvent.{filtered}
use Rattle.inst_slot.proofs.ResolutionFitsBooks.{in_cons}

module _ {A : Type 0} (p : A → Bool) where
  counted_first : (y : A) (ys : List A) → p y ≡ true → count_by p (y ∷ ys) ≡ 1 + count_by p ys
  counted_first y ys here = sum_by-cons (λ x. cond (p x) 1 0) y ys ∙ ap {B = ℕ} (λ b. cond b 1 0 + count_by p ys) here

  counted_later : (y : A) (ys : List A) → count_by p ys ≤ count_by p (y ∷ ys)
  counted_later y ys = omega (arith, sum_by-cons (λ x. cond (p x) 1 0) y ys)

  -- what is there and passes is counted
  counted_there : (xs : List A) (i : ℕ) (x : A) → slice_get xs i ≡ Some x → p x ≡ true → 1 ≤ count_by p xs
  counted_there [] i x e passes = let no : ⊥ = cc in absurd no
  counted_there (y ∷ ys) zero x e passes =
      let same : y ≡ x = cc in
      omega (arith, counted_first y ys (ap p same ∙ passes))
  counted_there (y ∷ ys) (suc i) x e passes = omega (arith, counted_there ys i x e passes, counted_later y ys)

  -- what passes and is there once is at one index
  pub same_index : (xs : List A) (i j : ℕ) (x y : A) → count_by p xs ≤ 1 → slice_get xs i ≡ Some x → slice_get xs j ≡ Some y → p x ≡ true → p y ≡ true → i ≡ j
  same_index [] i j x y once here there one other = let no : ⊥ = cc in absurd no
  same_index (z ∷ zs) zero zero x y once here there one other = refl
  same_index (z ∷ zs) zero (suc j) x y once here there one other =
      let same : z ≡ x = cc in
      absurd (omega (arith, once, counted_first z zs (ap p same ∙ one), counted_there zs j y there other))
  same_index (z ∷ zs) (suc i) zero x y once here there one other =
      let same : z ≡ y = cc in
      absurd (omega (arith, once, counted_first z zs (ap p same ∙ other), counted_there zs i x here one))
  same_index (z ∷ zs) (suc i) (suc j) x y once here there one other =
      ap suc (same_index zs i j x y (omega (arith, once, counted_later z zs)) here there one other)

  at_index : (xs : List A) (x : A) → Contains xs x → (i : ℕ) × (slice_get xs i ≡ Some x)
  at_index xs x (i, below, is) = (i, slice_get-get_or xs i x below ∙ ap (λ (y : A). Some y) is)

  -- two that pass are the same, where one at most does
  pub same_one : (xs : List A) (x y : A) → count_by p xs ≤ 1 → Contains xs x → Contains xs y → p x ≡ true → p y ≡ true → x ≡ y
  same_one xs x y once here there one other =
      let i = at_index xs x here in
      let j = at_index xs y there in
      let same = same_index xs i.0 j.0 x y once i.1 j.1 one other in
      let both : Some x ≡ Some y = sym i.1 ∙ ap (slice_get xs) same ∙ j.1 in
      cc

  counted_step : (y : A) (ys zs : List A) (b : Bool) → count_by p zs ≤ count_by p ys → count_by p (cond b (y ∷ zs) zs) ≤ count_by p (y ∷ ys)
  counted_step y ys zs true rest = omega (arith, rest, sum_by-cons (λ x. cond (p x) 1 0) y ys, sum_by-cons (λ x. cond (p x) 1 0) y zs)
  counted_step y ys zs false rest = omega (arith, rest, counted_later y ys)

  -- a filter keeps no more
  pub counted_kept : (q : A → Bool) (xs : List A) → count_by p (filter q xs) ≤ count_by p xs
  counted_kept q [] = omega arith
  counted_kept q (y ∷ ys) = counted_step y ys (filter q ys) (q y) (counted_kept q ys)

  -- what a filter keeps was there, and passes
  in_filter : (xs : List A) (x : A) → Contains (filter p xs) x → Contains xs x
  in_filter xs x there = let i = at_index (filter p xs) x there in (filtered p xs i.0 x i.1).0

in_map : {A B : Type 0} (f : A → B) (xs : List A) (x : A) → Contains xs x → Contains (map f xs) (f x)
in_map f [] x (i, below, is) = absurd (omega arith)
in_map f (y ∷ ys) x (zero, below, is) = (zero, omega arith, ap f is)
in_map f (y ∷ ys) x (suc i, below, is) = Contains-append_right (f y ∷ []) (map f ys) (f x) (in_map f ys x (i, omega arith, is))

forwarded_entry : (e : Event) (x : Entry) → entry_of e ≡ Some x → e ≡ Forwarded x.from x.id x.cents x.deadline
forwarded_entry (Forwarded from id cents d) x h =
    let y : Entry = record { from = from; id = id; cents = cents; deadline = d } in
    let same : y ≡ x = cc in
    ap (λ (z : Entry). Forwarded z.from z.id z.cents z.deadline) same
forwarded_entry (Taken id to cents stamp) x h = let none : ⊥ = cc in absurd none
forwarded_entry (Funded funding) x h = let none : ⊥ = cc in absurd none
forwarded_entry (Defunded funding) x h = let none : ⊥ = cc in absurd none
forwarded_entry (Booked from id o) x h = let none : ⊥ = cc in absurd none
forwarded_entry (Fetched n) x h = let none : ⊥ = cc in absurd none
forwarded_entry Opened x h = let none : ⊥ = cc in absurd none

-- each entry of the inbox was forwarded so
in_inbox : (J : List Event) (x : Entry) → Contains (inbox J) x → Contains J (Forwarded x.from x.id x.cents x.deadline)
in_inbox [] x (i, below, is) = absurd (omega arith)
in_inbox (e ∷ J) x h = elim (in_cons (entry_of e) (inbox J) x h) [
  | inl here ↦ (0, omega arith, forwarded_entry e x here)
  | inr later ↦ Contains-append_right (e ∷ []) J (Forwarded x.from x.id x.cents x.deadline) (in_inbox J x later)
]

-- each arrival was forwarded so
pub arrival_contained : {B : Type 0} (settings : B → HubSettings) (knows : B → Fact → Type 0) (has_role : B → ℕ → Type 0) (b : B) (book : Book) (x : Arrival) → IsLawfulBoard settings knows has_role b book → Contains book.arrivals x
    → Contains book.events (Forwarded x.entry.from x.entry.id x.entry.cents x.entry.deadline)
arrival_contained settings knows has_role b book x lawful there =
    let live = subst (λ (l : List Entry). Contains l x.entry) lawful.arrived (in_map (λ (y : Arrival). y.entry) book.arrivals x there) in
    in_inbox book.events x.entry (in_filter (λ (e : Entry). is_live e.from e.id book.events) (inbox book.events) x.entry live)
