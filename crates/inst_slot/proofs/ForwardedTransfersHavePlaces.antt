-- Where the places of all arrivals were found, each live transfer that was forwarded has its place.
use Rattle.std.proofs.Common.{◌≡◌, ℕ, zero, arith, Bool, true, false, ◌||◌, ◌==◌, cond, List, [], ◌∷◌, ⊎_elim, refl, sym, ap, ◌∙◌, subst, Option, Some, None, is_some}
use Rattle.std.specs.Prelude.{Contains, map}
use Rattle.std.specs.List.{list_any, filter}
use Rattle.std.specs.Cmp.Lexicographic.{same_text as text_same}
use Rattle.std.proofs.lemmas.Bool.{and_parts, eqb-true, false≢true, or_cases}
use Rattle.std.proofs.lemmas.List.Elements.{Contains-append_left, Contains-append_right}
use Rattle.inst_settings.specs.Settings.{HubSettings, same_text}
use Rattle.inst_command.specs.declared.command.Command.{Command}
use Rattle.inst_command.specs.declared.command.Command.TheVariants.{Fund, Defund, Submit, Confirm, Reject, Investigate, Fetch, Query}
use Rattle.inst_command.specs.declared.entry.Entry.{Entry}
use Rattle.inst_board.specs.declared.about.About.TheVariants.{Opened, HasTerms}
use Rattle.inst_board.specs.declared.about.Fact.{Fact}
use Rattle.inst_board.specs.Standing.{about, unused}
use Rattle.inst_journal.specs.declared.event.Event.{Event}
use Rattle.inst_journal.specs.declared.event.Event.TheVariants.{Funded, Defunded, Taken, Forwarded, Booked, Fetched, Opened as OpenedEvent}
use Rattle.inst_journal.specs.Booked.{is_forwarded, same_transfer, or_else}
use Rattle.inst_journal.specs.Opened.{is_live}
use Rattle.inst_journal.specs.Reply.{inbox}
use Rattle.inst_slot.specs.declared.arrival.Arrival.{Arrival}
use Rattle.inst_slot.specs.Book.{Book, place_at, arrival_index, arrived_at}
use Rattle.inst_slot.specs.LawfulBoard.{IsLawfulBoard, IsAdopted, AllAreAdopted}
use Rattle.inst_slot.specs.Asking.{AsksAdopted}

abbrev names : ℕ → List ℕ → Entry → Bool
names from id e = same_transfer from id e.from e.id

forwarded_entry : (from : ℕ) (id : List ℕ) (J : List Event) → list_any (names from id) (inbox J) ≡ is_forwarded from id J
forwarded_entry from id [] = refl
forwarded_entry from id (Forwarded f i n d ∷ J) = ap (λ (b : Bool). same_transfer from id f i || b) (forwarded_entry from id J)
forwarded_entry from id (Taken i t n m ∷ J) = forwarded_entry from id J
forwarded_entry from id (Funded funding ∷ J) = forwarded_entry from id J
forwarded_entry from id (Defunded funding ∷ J) = forwarded_entry from id J
forwarded_entry from id (Booked f i o ∷ J) = forwarded_entry from id J
forwarded_entry from id (Fetched n ∷ J) = forwarded_entry from id J
forwarded_entry from id (OpenedEvent ∷ J) = forwarded_entry from id J

live_step : (from : ℕ) (id : List ℕ) (J : List Event) (e : Entry) (zs ys : List Entry) → is_live from id J ≡ true → list_any (names from id) zs ≡ list_any (names from id) ys
    → (l : Bool) → is_live e.from e.id J ≡ l → (t : Bool) → names from id e ≡ t → list_any (names from id) (cond l (e ∷ zs) zs) ≡ (names from id e || list_any (names from id) ys)
live_step from id J e zs ys live rest true here t same = ap (λ (b : Bool). names from id e || b) rest
live_step from id J e zs ys live rest false here true same =
    let key = and_parts (e.from == from) (same_text e.id id) same in
    absurd (false≢true (sym here ∙ ap (λ (f : ℕ). is_live f e.id J) (eqb-true e.from from key.0) ∙ ap (λ (i : List ℕ). is_live from i J) (text_same e.id id (sym key.1)) ∙ live))
live_step from id J e zs ys live rest false here false same = rest ∙ sym (ap (λ (b : Bool). b || list_any (names from id) ys) same)

live_entry : (from : ℕ) (id : List ℕ) (J : List Event) → is_live from id J ≡ true → (xs : List Entry) → list_any (names from id) (filter (λ (e : Entry). is_live e.from e.id J) xs) ≡ list_any (names from id) xs
live_entry from id J live [] = refl
live_entry from id J live (e ∷ xs) = live_step from id J e (filter (λ (x : Entry). is_live x.from x.id J) xs) xs live (live_entry from id J live xs) (is_live e.from e.id J) refl (names from id e) refl

some_first : {A : Type 0} (o p : Option A) → is_some p ≡ true → is_some (or_else o p) ≡ true
some_first None p some = some
some_first (Some x) p some = refl

first_is : (o p : Option ℕ) → is_some o ≡ true → is_some (or_else o p) ≡ true
first_is (Some x) p some = refl
first_is None p some = absurd (false≢true some)

found_arrival : (from : ℕ) (id : List ℕ) (A : List Arrival) → ((x : Arrival) → Contains A x → is_some x.index ≡ true) → list_any (names from id) (map (λ (x : Arrival). x.entry) A) ≡ true → is_some (arrived_at from id A) ≡ true
found_arrival from id [] adopted any = absurd (false≢true any)
found_arrival from id (x ∷ A) adopted any = ⊎_elim
    (λ here. first_is (arrival_index from id x) (arrived_at from id A) (ap (λ (b : Bool). is_some (cond b x.index None)) here ∙ adopted x (Contains-append_left (x ∷ []) A x (zero, omega arith, refl))))
    (λ later. some_first (arrival_index from id x) (arrived_at from id A) (found_arrival from id A (λ y there. adopted y (Contains-append_right (x ∷ []) A y there)) later))
    (or_cases (names from id x.entry) (list_any (names from id) (map (λ (y : Arrival). y.entry) A)) any)

module _ {B : Type 0} (settings : B → HubSettings) (knows : B → Fact → Type 0) (has_role : B → ℕ → Type 0) where
  pub is_adopted : (b : B) (book : Book) (from : ℕ) (id : List ℕ) → IsLawfulBoard settings knows has_role b book → AllAreAdopted book → IsAdopted book from id
  is_adopted b book from id was adopted = λ forwarded live.
      found_arrival from id book.arrivals adopted
      (ap (list_any (names from id)) was.arrived ∙ live_entry from id book.events live (inbox book.events) ∙ forwarded_entry from id book.events ∙ forwarded)

  pub asks_adopted : (b : B) (book : Book) (command : Command) → IsLawfulBoard settings knows has_role b book → AllAreAdopted book → AsksAdopted book command
  asks_adopted b book (Confirm from id) was adopted = is_adopted b book from id was adopted
  asks_adopted b book (Reject from id reason) was adopted = is_adopted b book from id was adopted
  asks_adopted b book (Fund funding) was adopted = tt
  asks_adopted b book (Defund funding) was adopted = tt
  asks_adopted b book (Submit x) was adopted = tt
  asks_adopted b book (Investigate id) was adopted = tt
  asks_adopted b book (Fetch max) was adopted = tt
  asks_adopted b book (Query query) was adopted = tt

  -- a board of which nothing is known is lawful for new books
  pub begins : (b : B) (book : Book) → settings b ≡ book.settings → has_role b book.who → ((f : Fact) → ¬ knows b f) → book.events ≡ [] → book.arrivals ≡ [] → IsLawfulBoard settings knows has_role b book
  begins b book same role nothing events arrivals =
      let empty : Book = record { settings = book.settings; who = book.who; events = []; arrivals = [] } in
      let first : IsLawfulBoard settings knows has_role b empty = record {
        same_settings = same;
        role = role;
        truly = λ j. (unused, tt, λ a h. absurd (nothing (about j a) h));
        taken_known = λ index id to cents stamp e. let no : ⊥ = cc in absurd no;
        only_taken = λ index kn. absurd (nothing (about (place_at book.who index) Opened) kn);
        arrived = refl;
        forwarded_known = λ x index there is. absurd (nowhere x there);
        booked_known = λ from id o e live. let no : ⊥ = cc in absurd no;
        answered = λ k t o to answer kt kd. absurd (nothing (about k (HasTerms t)) kt);
      } in
      subst (λ (J : List Event). IsLawfulBoard settings knows has_role b (record { settings = book.settings; who = book.who; events = J; arrivals = book.arrivals })) (sym events)
      (subst (λ (A : List Arrival). IsLawfulBoard settings knows has_role b (record { settings = book.settings; who = book.who; events = []; arrivals = A })) (sym arrivals) first)
    where
      nowhere : (x : Arrival) → Contains [] x → ⊥
      nowhere x (i, below, is) = absurd (omega arith)
