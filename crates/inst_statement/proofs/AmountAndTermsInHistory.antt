-- Where the amount and the terms of a transfer are found in a history.
use Rattle.std.proofs.Common.{◌≡◌, ℕ, Bool, true, false, ◌||◌, cond, List, [], ◌∷◌, Option, Some, None, is_some, refl, sym, ap, ◌∙◌}
use Rattle.std.specs.List.{list_any}
use Rattle.std.proofs.lemmas.Bool.{true≢false}
use Rattle.inst_settings.specs.Settings.{same_text}
use Rattle.inst_journal.specs.declared.event.Event.{Event}
use Rattle.inst_journal.specs.declared.event.Event.TheVariants.{Funded, Defunded, Taken, Forwarded, Booked, Fetched, Opened}
use Rattle.inst_journal.specs.Booked.{or_else, first_some, takes, is_taken, forwards, is_forwarded, same_transfer}
use Rattle.inst_statement.specs.inner.Movement.{came, sent}

pub none_of : {A : Type 0} (o : Option A) → is_some o ≡ false → o ≡ None
none_of None h = refl
none_of (Some x) h = absurd (true≢false h)

pub some_or : {A : Type 0} (o p : Option A) → (is_some o || is_some p) ≡ is_some (or_else o p)
some_or None p = refl
some_or (Some x) p = refl

-- a test and a function that agree find together
pub any_first : {A B : Type 0} (p : A → Bool) (f : A → Option B) → ((x : A) → p x ≡ is_some (f x)) → (xs : List A) → list_any p xs ≡ is_some (first_some f xs)
any_first p f same [] = refl
any_first p f same (x ∷ xs) = ap (λ b. b || list_any p xs) (same x) ∙ ap (λ b. is_some (f x) || b) (any_first p f same xs) ∙ some_or (f x) (first_some f xs)

pub some_cond : {A : Type 0} (b : Bool) (x : A) → b ≡ is_some (cond b (Some x) None)
some_cond true x = refl
some_cond false x = refl

pub takes_sent : (id : List ℕ) (event : Event) → takes id event ≡ is_some (sent id event)
takes_sent id (Taken other to cents stamp) = some_cond {A = ℕ × ℕ} (same_text other id) (to, cents)
takes_sent id (Funded funding) = refl
takes_sent id (Defunded funding) = refl
takes_sent id (Forwarded from other cents deadline) = refl
takes_sent id (Booked from other outcome) = refl
takes_sent id (Fetched count) = refl
takes_sent id Opened = refl

pub forwards_came : (from : ℕ) (id : List ℕ) (event : Event) → forwards from id event ≡ is_some (came from id event)
forwards_came from id (Forwarded other_from other cents deadline) = some_cond (same_transfer from id other_from other) cents
forwards_came from id (Taken other to cents stamp) = refl
forwards_came from id (Funded funding) = refl
forwards_came from id (Defunded funding) = refl
forwards_came from id (Booked other_from other outcome) = refl
forwards_came from id (Fetched count) = refl
forwards_came from id Opened = refl

-- a transfer is taken where its terms are found, and forwarded where its amount is
pub taken_found : (id : List ℕ) (J : List Event) → is_taken id J ≡ is_some (first_some (sent id) J)
taken_found id J = any_first (takes id) (sent id) (takes_sent id) J

pub forwarded_found : (from : ℕ) (id : List ℕ) (J : List Event) → is_forwarded from id J ≡ is_some (first_some (came from id) J)
forwarded_found from id J = any_first (forwards from id) (came from id) (forwards_came from id) J

pub unsent : (id : List ℕ) (J : List Event) → is_taken id J ≡ false → first_some (sent id) J ≡ None
unsent id J none = none_of (first_some (sent id) J) (sym (taken_found id J) ∙ none)

pub not_come : (from : ℕ) (id : List ℕ) (J : List Event) → is_forwarded from id J ≡ false → first_some (came from id) J ≡ None
not_come from id J none = none_of (first_some (came from id) J) (sym (forwarded_found from id J) ∙ none)
