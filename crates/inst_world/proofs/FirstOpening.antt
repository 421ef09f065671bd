-- A hub that opens for the first time.
use Rattle.std.proofs.Common.{◌≡◌, ℕ, zero, suc, ◌+◌, List, [], ◌∷◌, ◌++◌, length, Some, refl, sym, ap, subst, ◌∙◌, ⊎_elim, arith, length-append}
use Rattle.std.specs.Prelude.{slice_get, Contains}
use Rattle.inst_base.proofs.Lists.{snoc_cases}
use Rattle.inst_settings.specs.Settings.{HubSettings, participants}
use Rattle.inst_command.specs.declared.place.Place.{Place}
use Rattle.inst_board.specs.declared.about.Fact.{Fact}
use Rattle.inst_board.specs.declared.plain.Kept.{Kept}
use Rattle.inst_board.specs.declared.plain.Kept.TheVariants.{Unused}
use Rattle.inst_board.specs.Standing.{Says}
use Rattle.inst_board.specs.Plain.{Contents, kept_at, standing_of, plain_knows}
use Rattle.inst_model.specs.Opening.Opening.{First}
use Rattle.inst_slot.specs.declared.arrival.Arrival.{Arrival}
use Rattle.inst_slot.specs.Book.{Book}
use Rattle.inst_world.specs.HasRun.{IsMember, IsWorld, HasRun}
use Rattle.inst_slot.proofs.ForwardedTransfersHavePlaces.{begins}

-- the book of a participant of a hub that opens for the first time
abbrev pub new_book : HubSettings → ℕ → Book
new_book s who = record { settings = s; who = who; events = []; arrivals = [] }

-- the books of the first n participants
abbrev pub new_books : HubSettings → ℕ → List Book
new_books s zero = []
new_books s (suc n) = new_books s n ++ new_book s n ∷ []

same_book : (book other : Book) → book.settings ≡ other.settings → book.who ≡ other.who → book.events ≡ other.events → book.arrivals ≡ other.arrivals → book ≡ other
same_book book other s w e a = λ i. record { settings = s i; who = w i; events = e i; arrivals = a i }

pub new_pushed : (s : HubSettings) (n : ℕ) (books pushed : List Book) (book : Book) → books ≡ new_books s n → pushed ≡ books ++ book ∷ [] → book.settings ≡ s → book.who ≡ n → book.events ≡ [] → book.arrivals ≡ []
    → pushed ≡ new_books s (n + 1)
new_pushed s n books pushed book are push settings who events arrivals =
    push ∙ ap (λ (xs : List Book). xs ++ book ∷ []) are ∙ ap (λ (x : Book). new_books s n ++ x ∷ []) (same_book book (new_book s n) settings who events arrivals)
    ∙ ap (new_books s) more
  where
    more : suc n ≡ n + 1
    more = omega arith

new_length : (s : HubSettings) (n : ℕ) → length (new_books s n) ≡ n
new_length s zero = refl
new_length s (suc n) = length-append (new_books s n) (new_book s n ∷ []) ∙ ap (λ (k : ℕ). k + 1) (new_length s n) ∙ omega arith

new_at : (s : HubSettings) (n p : ℕ) (book : Book) → slice_get (new_books s n) p ≡ Some book → book ≡ new_book s p
new_at s zero p book e = let no : ⊥ = cc in absurd no
new_at s (suc n) p book e = ⊎_elim
    (λ before. new_at s n p book before)
    (λ last. sym last.1 ∙ ap (new_book s) (sym (last.0 ∙ new_length s n)))
    (snoc_cases (new_books s n) (new_book s n) book p e)

module _ (b : Contents) (unused : (place : Place) → kept_at b place ≡ Unused) where
  pub nothing_known : (f : Fact) → ¬ plain_knows b f
  nothing_known f knows = subst (λ (k : Kept). Says (standing_of k) f.about) (unused f.place) knows

  new_member : (p : ℕ) → IsMember b.settings b p (new_book b.settings p)
  new_member p = record {
    settings_are = refl;
    who_is = refl;
    lawful = begins (λ (d : Contents). d.settings) plain_knows (λ d q. Unit {0}) b (new_book b.settings p) refl tt nothing_known refl refl;
    adopted = λ x there. absurd (nowhere x there);
  }
    where
      nowhere : (x : Arrival) → Contains [] x → ⊥
      nowhere x (i, below, is) = absurd (omega arith)

  pub new_world : (books : List Book) → books ≡ new_books b.settings (participants b.settings) → IsWorld (record { books = books; board = b })
  new_world books are = record {
    one_each = ap (λ (xs : List Book). length xs) are ∙ new_length b.settings (participants b.settings);
    member = λ p book there.
        subst (λ (x : Book). IsMember b.settings b p x) (sym (new_at b.settings (participants b.settings) p book (ap (λ (xs : List Book). slice_get xs p) (sym are) ∙ there))) (new_member p);
  }

  pub new_has_run : (books : List Book) → books ≡ new_books b.settings (participants b.settings) → HasRun First [] (record { books = books; board = b })
  new_has_run books are = record {
    opening = tt;
    steps = tt;
    histories = λ p book there. ap (λ (x : Book). x.events) (new_at b.settings (participants b.settings) p book (ap (λ (xs : List Book). slice_get xs p) (sym are) ∙ there));
    board = λ p place. ap standing_of (unused (record { owner = p; index = place }));
  }
