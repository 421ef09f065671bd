-- The journals of the participants can open where the books can.
use Rattle.std.proofs.Common.{◌≡◌, ℕ, ◌+◌, ◌<◌, ◌≤◌, true, false, List, [], length, get_or, slice_get, Some, sym, ap, ◌∙◌, subst, inl, inr, arith, Contains, nat_lt, ltb-true, ltb-false}
use Rattle.std.proofs.lemmas.Bool.{cases_Bool, cases_eq}
use Rattle.std.proofs.lemmas.Option.{slice_get-get_or, slice_get_past}
use Rattle.inst_base.specs.TimeLimit.{deadline_of}
use Rattle.inst_settings.specs.Settings.{HubSettings, participants, is_participant}
use Rattle.inst_command.specs.declared.outcome.Outcome.TheVariants.{Accepted}
use Rattle.inst_journal.specs.declared.event.Event.{Event}
use Rattle.inst_journal.specs.declared.event.Event.TheVariants.{Taken, Forwarded, Booked}
use Rattle.inst_journal.specs.History.{History}
use Rattle.inst_journal.specs.Opened.{HasOpeningsLeft}
use Rattle.inst_journal.specs.Sound.{IsSound}
use Rattle.inst_model.specs.Closing.{AreClosed}
use Rattle.inst_model.specs.Fit.{BooksFit, BooksAreClosed}
use Rattle.inst_model.specs.Opening.{BooksCanOpen}
use Rattle.inst_world.specs.NextOpening.{kept_by, books_of, AreClosedBooks, CanOpenFrom, AreJournalsOf}
use Rattle.inst_world.proofs.PromisesFollowFromLaws.{fitting}

module _ (s : HubSettings) (J : ℕ → List Event) (journals : List History) (can : AreClosed s J) (are : AreJournalsOf s J journals) where
  past : (p : ℕ) → is_participant s p ≡ false → books_of journals p ≡ []
  past p none = ap kept_by (slice_get_past journals p (omega (arith, ltb-false p (participants s) none, are.one_each)))

  pub by_number : (P : List Event → Type 0) (p : ℕ) → P (J p) → P [] → P (books_of journals p)
  by_number P p here nowhere = elim (cases_Bool (is_participant s p)) [
    | inl one ↦ subst P (sym (are.same p one)) here
    | inr none ↦ subst P (sym (past p none)) nowhere
  ]

  none_there : (event : Event) → Contains [] event → ⊥
  none_there event there = omega (arith, there.1)

  holder : (p : ℕ) (event : Event) → Contains (books_of journals p) event → is_participant s p ≡ true
  holder p event held = elim (cases_Bool (is_participant s p)) [
    | inl one ↦ one
    | inr none ↦ absurd (none_there event (subst (λ (K : List Event). Contains K event) (past p none) held))
  ]

  there : (p : ℕ) (event : Event) → Contains (books_of journals p) event → Contains (J p) event
  there p event held = subst (λ (K : List Event). Contains K event) (are.same p (holder p event held)) held

  back : (p : ℕ) (event : Event) → is_participant s p ≡ true → Contains (J p) event → Contains (books_of journals p) event
  back p event one held = subst (λ (K : List Event). Contains K event) (sym (are.same p one)) held

  sender : (p from : ℕ) (id : List ℕ) (cents deadline : ℕ) → Contains (J p) (Forwarded from id cents deadline) → is_participant s from ≡ true
  sender p from id cents deadline held = (fitting s p (J p) (can.sound p) (Forwarded from id cents deadline) held).1.originator

  receiver : (from : ℕ) (id : List ℕ) (to cents stamp : ℕ) → Contains (J from) (Taken id to cents stamp) → is_participant s to ≡ true
  receiver from id to cents stamp held = (fitting s from (J from) (can.sound from) (Taken id to cents stamp) held).1.beneficiary

  fit : BooksFit s (books_of journals)
  fit = record {
    forwarded_is_taken = λ p from id cents deadline held.
        let came = there p (Forwarded from id cents deadline) held in
        let sent = can.closed.fit.forwarded_is_taken p from id cents deadline came in
        (sent.0, back from (Taken id p cents sent.0) (sender p from id cents deadline came) sent.1, sent.2);
    both_book_the_same = λ p q from id one other held also.
        can.closed.fit.both_book_the_same p q from id one other (there p (Booked from id one) held) (there q (Booked from id other) also);
    paid_is_received = λ from id to cents stamp held paid.
        let sent = there from (Taken id to cents stamp) held in
        back to (Booked from id Accepted) (receiver from id to cents stamp sent) (can.closed.fit.paid_is_received from id to cents stamp sent (there from (Booked from id Accepted) paid));
  }

  closed : BooksAreClosed s (books_of journals)
  closed = record {
    fit = fit;
    originator_booked = λ from id to cents stamp p o held told.
        back from (Booked from id o) (holder from (Taken id to cents stamp) held)
        (can.closed.originator_booked from id to cents stamp p o (there from (Taken id to cents stamp) held) (there p (Booked from id o) told));
    beneficiary_booked = λ from id to cents deadline p o held told.
        back to (Booked from id o) (holder to (Forwarded from id cents deadline) held)
        (can.closed.beneficiary_booked from id to cents deadline p o (there to (Forwarded from id cents deadline) held) (there p (Booked from id o) told));
    pending_is_forwarded = λ from id to cents stamp held nobody.
        let sent = there from (Taken id to cents stamp) held in
        back to (Forwarded from id cents (deadline_of s.limit stamp)) (receiver from id to cents stamp sent)
        (can.closed.pending_is_forwarded from id to cents stamp sent
        (λ p o told. nobody from o (back from (Booked from id o) (holder from (Taken id to cents stamp) held) (can.closed.originator_booked from id to cents stamp p o sent told))));
  }

  pub closed_books : AreClosedBooks s journals
  closed_books = record {
    one_each = are.one_each;
    closed = record { sound = λ p. by_number (λ K. IsSound s p K) p (can.sound p) tt; closed = closed };
  }

-- where none was opened from too often
pub few_can_open : (s : HubSettings) (journals : List History) → AreClosedBooks s journals → ((p : ℕ) → HasOpeningsLeft (books_of journals p)) → CanOpenFrom s journals
few_can_open s journals books few = record {
  one_each = books.one_each;
  books = record { sound = books.closed.sound; closed = books.closed.closed; few = few };
}

pub can_open_from : (s : HubSettings) (J : ℕ → List Event) (journals : List History) → BooksCanOpen s J → AreJournalsOf s J journals → CanOpenFrom s journals
can_open_from s J journals can are =
    let closed : AreClosed s J = record { sound = can.sound; closed = can.closed } in
    few_can_open s journals (closed_books s J journals closed are) (λ p. by_number s J journals closed are (λ K. HasOpeningsLeft K) p (can.few p) (omega arith))

-- so far none of the journals was opened from too often, nor this one
pub one_more_few : (journals : List History) (n : ℕ) (journal : History) → n < length journals → journal ≡ get_or journals n journal → HasOpeningsLeft journal.events
    → ((p : ℕ) → p < n → HasOpeningsLeft (books_of journals p)) → (p : ℕ) → p < n + 1 → HasOpeningsLeft (books_of journals p)
one_more_few journals n journal below here few so p small = elim (cases_eq p n) [
  | inl at ↦
      let found : slice_get journals n ≡ Some journal = slice_get-get_or journals n journal below ∙ ap (λ (j : History). Some j) (sym here) in
      subst (λ (J : List Event). HasOpeningsLeft J) (sym (ap (λ (q : ℕ). books_of journals q) at ∙ ap kept_by found)) few
  | inr other ↦ so p (omega (arith, small, other))
]

-- none of all was
pub all_few : (journals : List History) (n : ℕ) → length journals ≤ n → ((p : ℕ) → p < n → HasOpeningsLeft (books_of journals p)) → (p : ℕ) → HasOpeningsLeft (books_of journals p)
all_few journals n most so p = elim (cases_Bool (nat_lt p n)) [
  | inl below ↦ so p (ltb-true p n below)
  | inr past ↦ subst (λ (J : List Event). HasOpeningsLeft J) (sym (ap kept_by (slice_get_past journals p (omega (arith, ltb-false p n past, most))))) (omega arith)
]
