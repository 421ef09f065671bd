-- Histories of fundings alone, and positions by code.
use Rattle.std.proofs.Common.{◌≡◌, ℕ, ◌+◌, ◌<◌, ◌≤◌, true, List, [], ◌∷◌, ◌++◌, length, length-append, get_or, zero, suc, Option, None, Some, ◌⊎◌, inl, inr, refl, sym, ap, ◌∙◌, arith, sum_by}
use Rattle.std.specs.List.{list_all}
use Rattle.std.proofs.lemmas.Bool.{and_from, and_parts, false≢true, lt-ltb, ltb-true}
use Rattle.std.proofs.lemmas.Grind.{elements}
use Rattle.std.proofs.lemmas.List.Folds.{list_all-append}
use Rattle.std.proofs.lemmas.List.Sums.{sum_by-cons, sum_by_push}
use Rattle.std.proofs.lemmas.List.Quantifiers.{position-Some}
use Rattle.std.proofs.lemmas.Option.{slice_get_past}
use Rattle.std.proofs.lemmas.Slice.Eq.{bytes_eq-Decides}
use Rattle.inst_settings.specs.Codes.{index_of}
use Rattle.inst_settings.specs.Settings.{HubSettings, participants, same_text}
use Rattle.inst_command.specs.declared.funding.Funding.{Funding}
use Rattle.inst_journal.specs.declared.event.Event.{Event}
use Rattle.inst_journal.specs.declared.event.Event.TheVariants.{Funded, Defunded, Taken, Forwarded, Booked, Fetched, Opened}
use Rattle.inst_journal.specs.History.{History}
use Rattle.inst_journal.specs.Money.{position, reserved}
use Rattle.inst_journal.specs.Sums.{credit, credits, debit, debits, defunded, defunding, funded, funding}
use Rattle.inst_world.specs.NextOpening.{books_of, kept_by}
use Rattle.inst_base.proofs.Lists.{last_at}
use Rattle.inst_books.specs.Positions.{IsFundedWith, is_before_base, is_fund, position_at, position_of}
use Rattle.inst_books.specs.inner.Carrying.{AreAllPositions, AreFunded, ArePositionsOf}
use Rattle.inst_books.proofs.ReplayedJournals.{below_or_last, get_before}

no_credit : (K : List Event) (e : Event) → is_fund e ≡ true → credit K e ≡ 0
no_credit K (Funded f) is = refl
no_credit K (Defunded f) is = refl
no_credit K (Taken id to cents stamp) is = refl
no_credit K (Forwarded from id cents deadline) is = absurd (false≢true is)
no_credit K (Booked from id outcome) is = refl
no_credit K (Fetched count) is = refl
no_credit K Opened is = refl

no_debit : (K : List Event) (e : Event) → is_fund e ≡ true → debit K e ≡ 0
no_debit K (Funded f) is = refl
no_debit K (Defunded f) is = refl
no_debit K (Taken id to cents stamp) is = absurd (false≢true is)
no_debit K (Forwarded from id cents deadline) is = refl
no_debit K (Booked from id outcome) is = refl
no_debit K (Fetched count) is = refl
no_debit K Opened is = refl

no_defunding : (e : Event) → is_fund e ≡ true → defunding e ≡ 0
no_defunding (Funded f) is = refl
no_defunding (Defunded f) is = absurd (false≢true is)
no_defunding (Taken id to cents stamp) is = refl
no_defunding (Forwarded from id cents deadline) is = refl
no_defunding (Booked from id outcome) is = refl
no_defunding (Fetched count) is = refl
no_defunding Opened is = refl

sum_nothing : (f : Event → ℕ) → ((e : Event) → is_fund e ≡ true → f e ≡ 0) → (J : List Event) → list_all is_fund J ≡ true → sum_by f J ≡ 0
sum_nothing f none [] all = refl
sum_nothing f none (e ∷ J) all =
    let parts = and_parts (is_fund e) (list_all is_fund J) all in
    sum_by-cons f e J ∙ omega (arith, none e parts.0, sum_nothing f none J parts.1)

-- fundings alone add up to the position
pub position_funded : (J : List Event) → list_all is_fund J ≡ true → position J ≡ funded J
position_funded J all =
    let c : credits J ≡ 0 = sum_nothing (credit J) (no_credit J) J all in
    let d : debits J ≡ 0 = sum_nothing (debit J) (no_debit J) J all in
    let w : defunded J ≡ 0 = sum_nothing defunding no_defunding J all in
    omega (arith, c, d, w)

-- one funding more
pub funded_more : (J : List Event) (f : Funding) → funded (J ++ Funded f ∷ []) ≡ funded J + f.cents
funded_more J f = sum_by_push funding J (Funded f)

-- a book past the last has no events
pub none_past : (journals : List History) (p : ℕ) → length journals ≤ p → books_of journals p ≡ []
none_past journals p past = ap kept_by (slice_get_past journals p past)

module _ (old new : HubSettings) (books next : List History) (positions : List ℕ) (count : length books ≡ participants old) (are : AreAllPositions books positions)
    (long : length next ≡ participants new) (funds : AreFunded old books new.codes next)
    (left : (p : ℕ) → p < length positions → index_of (get_or old.codes p []) new.codes ≡ None → get_or positions p 0 ≡ 0) (code : List ℕ) where
  same_code : (codes : List (List ℕ)) (p : ℕ) → index_of code codes ≡ Some p → code ≡ get_or codes p []
  same_code codes p is = (bytes_eq-Decides code (get_or codes p [])).0 (position-Some (same_text code) codes p [] is).1

  leaves : (o : Option ℕ) → index_of code old.codes ≡ o → index_of code new.codes ≡ None → 0 ≡ position_at books o
  leaves None is none = refl
  leaves (Some p) is none =
      let below : p < length positions = omega (arith, (position-Some (same_text code) old.codes p [] is).0, count, are.one_each) in
      sym (left p below (ap (λ c. index_of c new.codes) (sym (same_code old.codes p is)) ∙ none)) ∙ are.are.each p below

  stays : (o : Option ℕ) → index_of code new.codes ≡ o → position_at next o ≡ position_of old books code
  stays None is = leaves (index_of code old.codes) refl is
  stays (Some q) is =
      let below : q < length next = omega (arith, (position-Some (same_text code) new.codes q [] is).0, long) in
      funds.same q below ∙ ap (position_of old books) (sym (same_code new.codes q is))

  -- each code has the position that it had
  pub same_position : position_of new next code ≡ position_of old books code
  same_position = stays (index_of code new.codes) refl

-- what holds of every journal holds of every number
pub only_funds : (next : List History) → ((q : ℕ) → q < length next → list_all is_fund (books_of next q) ≡ true) → (p : ℕ) → list_all is_fund (books_of next p) ≡ true
only_funds next all p = by_case (within p) where
  within : (p : ℕ) → (p < length next) ⊎ (length next ≤ p)
  within p = grind arith

  by_case : (p < length next) ⊎ (length next ≤ p) → list_all is_fund (books_of next p) ≡ true
  by_case (inl below) = all p below
  by_case (inr past) = ap (list_all is_fund) (none_past next p past)

pub all_settled : (books : List History) (positions : List ℕ) → AreAllPositions books positions → (p : ℕ) → reserved (books_of books p) ≡ 0
all_settled books positions are p = by_case (within p) where
  within : (p : ℕ) → (p < length books) ⊎ (length books ≤ p)
  within p = grind arith

  by_case : (p < length books) ⊎ (length books ≤ p) → reserved (books_of books p) ≡ 0
  by_case (inl below) = are.are.settled p (omega (arith, below, are.one_each))
  by_case (inr past) = ap (λ J. reserved J) (none_past books p past)

-- one journal of fundings more
pub one_funded : (old : HubSettings) (books : List History) (codes : List (List ℕ)) (next : List History) (journal : History) (cents : ℕ) → IsFundedWith cents journal.events
    → cents ≡ position_of old books (get_or codes (length next) []) → AreFunded old books codes next → AreFunded old books codes (next ++ journal ∷ [])
one_funded old books codes next journal cents is here funds = record {
  only = λ q below. only_at q (below_or_last q (length next) (omega (arith, below, long)));
  same = λ q below. same_at q (below_or_last q (length next) (omega (arith, below, long)));
}
  where
    long : length (next ++ journal ∷ []) ≡ length next + 1
    long = length-append next (journal ∷ [])

    first_at : (q : ℕ) → q < length next → books_of (next ++ journal ∷ []) q ≡ books_of next q
    first_at q before = ap kept_by (get_before next journal q before)

    last_book : books_of (next ++ journal ∷ []) (length next) ≡ journal.events
    last_book = ap kept_by (last_at next journal)

    only_at : (q : ℕ) → (q < length next) ⊎ (length next ≡ q) → list_all is_fund (books_of (next ++ journal ∷ []) q) ≡ true
    only_at q (inl before) = ap (list_all is_fund) (first_at q before) ∙ funds.only q before
    only_at q (inr last) = ap (λ n. list_all is_fund (books_of (next ++ journal ∷ []) n)) (sym last) ∙ ap (list_all is_fund) last_book ∙ is.only

    same_at : (q : ℕ) → (q < length next) ⊎ (length next ≡ q) → position (books_of (next ++ journal ∷ []) q) ≡ position_of old books (get_or codes q [])
    same_at q (inl before) = ap (λ J. position J) (first_at q before) ∙ funds.same q before
    same_at q (inr last) =
        ap (λ n. position (books_of (next ++ journal ∷ []) n)) (sym last) ∙ ap (λ J. position J) last_book ∙ is.sum ∙ here ∙ ap (λ n. position_of old books (get_or codes n [])) last

-- one position more
pub one_position : (books : List History) (positions : List ℕ) (journal : History) (cents : ℕ) → books_of books (length positions) ≡ journal.events → cents ≡ position journal.events → reserved journal.events ≡ 0
    → ArePositionsOf books positions → ArePositionsOf books (positions ++ cents ∷ [])
one_position books positions journal cents here is settled are = record {
  each = λ p below. each_at p (below_or_last p (length positions) (omega (arith, below, long)));
  settled = λ p below. settled_at p (below_or_last p (length positions) (omega (arith, below, long)));
}
  where
    long : length (positions ++ cents ∷ []) ≡ length positions + 1
    long = length-append positions (cents ∷ [])

    each_at : (p : ℕ) → (p < length positions) ⊎ (length positions ≡ p) → get_or (positions ++ cents ∷ []) p 0 ≡ position (books_of books p)
    each_at p (inl before) = grind (arith, elements) ∙ are.each p before
    each_at p (inr last) =
        let at : get_or (positions ++ cents ∷ []) p 0 ≡ cents = grind (arith, elements) in
        at ∙ is ∙ ap (λ J. position J) (sym here) ∙ ap (λ n. position (books_of books n)) last

    settled_at : (p : ℕ) → (p < length positions) ⊎ (length positions ≡ p) → reserved (books_of books p) ≡ 0
    settled_at p (inl before) = are.settled p before
    settled_at p (inr last) = ap (λ n. reserved (books_of books n)) (sym last) ∙ ap (λ J. reserved J) here ∙ settled

-- an element within a list, whatever is said of one outside
pub element : (xs : List (List ℕ)) (i : ℕ) (x : List ℕ) → i < length xs → x ≡ get_or xs i x → x ≡ get_or xs i []
element (y ∷ xs) zero x below is = is
element (y ∷ xs) (suc i) x below is = element xs i x (omega (arith, below)) is
element [] i x below is = absurd (omega (arith, below))

-- a later base
pub later_event : (base n m : ℕ) (e : Event) → n ≤ m → is_before_base base n e ≡ true → is_before_base base m e ≡ true
later_event base n m (Funded f) more is = refl
later_event base n m (Defunded f) more is = refl
later_event base n m (Taken id to cents stamp) more is = lt-ltb (base + stamp) m (omega (arith, more, ltb-true (base + stamp) n is))
later_event base n m (Forwarded from id cents deadline) more is = refl
later_event base n m (Booked from id outcome) more is = refl
later_event base n m (Fetched count) more is = refl
later_event base n m Opened more is = refl

pub later_base : (base n m : ℕ) (J : List Event) → n ≤ m → list_all (is_before_base base n) J ≡ true → list_all (is_before_base base m) J ≡ true
later_base base n m [] more all = refl
later_base base n m (e ∷ J) more all =
    let parts = and_parts (is_before_base base n e) (list_all (is_before_base base n) J) all in
    and_from (is_before_base base m e) (list_all (is_before_base base m) J) (later_event base n m e more parts.0) (later_base base n m J more parts.1)

-- one event more
pub stamped_more : (base n : ℕ) (J : List Event) (e : Event) → list_all (is_before_base base n) J ≡ true → is_before_base base n e ≡ true → list_all (is_before_base base n) (J ++ e ∷ []) ≡ true
stamped_more base n J e all is =
    list_all-append (is_before_base base n) J (e ∷ []) ∙ and_from (list_all (is_before_base base n) J) (list_all (is_before_base base n) (e ∷ [])) all (and_from (is_before_base base n e) true is refl)
