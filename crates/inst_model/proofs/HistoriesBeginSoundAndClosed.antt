-- What histories begin with is sound and closed.
use Rattle.std.proofs.Common.{◌≡◌, ℕ, true, List, [], ◌∷◌, ◌++◌, Option, Some, None, is_none, refl, sym, ap, ◌∙◌, arith, inl, inr, Contains}
use Rattle.std.proofs.lemmas.List.Elements.{Contains-append_left, Contains-append_cases}
use Rattle.inst_base.specs.TimeLimit.{deadline_of}
use Rattle.inst_settings.specs.Settings.{HubSettings}
use Rattle.inst_command.specs.declared.outcome.Outcome.{Outcome}
use Rattle.inst_command.specs.declared.outcome.Outcome.TheVariants.{Accepted}
use Rattle.inst_journal.specs.declared.event.Event.{Event}
use Rattle.inst_journal.specs.declared.event.Event.TheVariants.{Taken, Forwarded, Booked, Opened}
use Rattle.inst_journal.specs.Booked.{is_forwarded, booked}
use Rattle.inst_journal.specs.Sound.{IsSound}
use Rattle.inst_journal.proofs.Soundness.{sound_push}
use Rattle.inst_model.specs.Opening.{Opening, beginning, IsOpening}
use Rattle.inst_model.specs.Opening.Opening.{First, FromBooks}
use Rattle.inst_model.specs.Fit.{BooksAreClosed}
use Rattle.inst_model.specs.Transfer.{Transfer, transfer}
use Rattle.inst_model.proofs.TextsTestsAndFirstThings.{Each_contains}
use Rattle.inst_model.proofs.Mirror.{Together}
use Rattle.inst_model.proofs.MirrorOfFittingHistories.{fitting_together, forwarding_there}
use Rattle.inst_model.proofs.LiveForwardedTransfers.{Living}
use Rattle.inst_model.proofs.Events.{booked_there}
use Rattle.inst_model.proofs.BookingsAreOfParties.{booked_found}
use Rattle.inst_journal.specs.Opened.{carried}
use Rattle.inst_journal.proofs.EventsCarriedOverOpening.{carried_opened}
use Rattle.inst_model.proofs.BookingsInClosedBooks.{originator_booked, beneficiary_booked}

pub beginning_sound : (s : HubSettings) (O : Opening) → IsOpening s O → (p : ℕ) → IsSound s p (beginning O p)
beginning_sound s First opened p = tt
beginning_sound s (FromBooks books) opened p = sound_push s p (books p) Opened (opened.sound p) (record { few = opened.few p })

nothing_there : (event : Event) → Contains [] event → ⊥
nothing_there event there = omega (arith, there.1)

-- an event of the beginning is one of the books, but for the opening
front : (J : List Event) (event : Event) → (event ≡ Opened → ⊥) → Contains (J ++ Opened ∷ []) event → Contains J event
front J event other there = elim (Contains-append_cases J (Opened ∷ []) event there) [
  | inl before ↦ before
  | inr last ↦ absurd (other (Each_contains (λ e. e ≡ Opened) (Opened ∷ []) event (refl, tt) last))
]

back : (J : List Event) (event : Event) → Contains J event → Contains (J ++ Opened ∷ []) event
back J event there = Contains-append_left J (Opened ∷ []) event there

pub beginning_closed : (s : HubSettings) (O : Opening) → IsOpening s O → BooksAreClosed s (beginning O)
beginning_closed s First opened = record {
  fit = record {
    forwarded_is_taken = λ p from id cents d there. absurd (nothing_there (Forwarded from id cents d) there);
    both_book_the_same = λ p q from id one other here there. absurd (nothing_there (Booked from id one) here);
    paid_is_received = λ from id to cents stamp there paid. absurd (nothing_there (Booked from id Accepted) paid);
  };
  originator_booked = λ from id to cents stamp p o taken there. absurd (nothing_there (Booked from id o) there);
  beneficiary_booked = λ from id to cents d p o forwarded there. absurd (nothing_there (Booked from id o) there);
  pending_is_forwarded = λ from id to cents stamp taken none. absurd (nothing_there (Taken id to cents stamp) taken);
}
beginning_closed s (FromBooks books) opened =
    let c : BooksAreClosed s books = opened.closed in
    record {
      fit = record {
        forwarded_is_taken = λ p from id cents d there.
            let was = c.fit.forwarded_is_taken p from id cents d (front (books p) (Forwarded from id cents d) (λ e. cc) there) in
            (was.0, back (books from) (Taken id p cents was.0) was.1, was.2);
        both_book_the_same = λ p q from id one other here there.
            c.fit.both_book_the_same p q from id one other (front (books p) (Booked from id one) (λ e. cc) here) (front (books q) (Booked from id other) (λ e. cc) there);
        paid_is_received = λ from id to cents stamp there paid.
            back (books to) (Booked from id Accepted) (c.fit.paid_is_received from id to cents stamp (front (books from) (Taken id to cents stamp) (λ e. cc) there) (front (books from) (Booked from id Accepted) (λ e. cc) paid));
      };
      originator_booked = λ from id to cents stamp p o taken there.
          back (books from) (Booked from id o) (c.originator_booked from id to cents stamp p o (front (books from) (Taken id to cents stamp) (λ e. cc) taken) (front (books p) (Booked from id o) (λ e. cc) there));
      beneficiary_booked = λ from id to cents d p o forwarded there.
          back (books to) (Booked from id o) (c.beneficiary_booked from id to cents d p o (front (books to) (Forwarded from id cents d) (λ e. cc) forwarded) (front (books p) (Booked from id o) (λ e. cc) there));
      pending_is_forwarded = λ from id to cents stamp taken none.
          back (books to) (Forwarded from id cents (deadline_of s.limit stamp)) (c.pending_is_forwarded from id to cents stamp (front (books from) (Taken id to cents stamp) (λ e. cc) taken)
          (λ p o there. none p o (back (books p) (Booked from id o) there)));
    }

pub beginning_together : (s : HubSettings) (O : Opening) → IsOpening s O → Together s (beginning O)
beginning_together s O opened = fitting_together s (beginning O) (beginning_sound s O opened) (beginning_closed s O opened).fit

-- what anyone has booked at the beginning the originator has booked
pub beginning_booked : (s : HubSettings) (O : Opening) → IsOpening s O → (q from : ℕ) (id : List ℕ) (o : Outcome) → booked from id (beginning O q) ≡ Some o → booked from id (beginning O from) ≡ Some o
beginning_booked s O opened = originator_booked s (beginning O) (beginning_sound s O opened) (beginning_closed s O opened)

pub beginning_accepted : (s : HubSettings) (O : Opening) → IsOpening s O → (from : ℕ) (id : List ℕ) → booked from id (beginning O from) ≡ Some Accepted →
    (x : Transfer) × (transfer id (beginning O from) ≡ Some x) × (booked from id (beginning O x.to) ≡ Some Accepted) × (is_forwarded from id (beginning O x.to) ≡ true)
beginning_accepted s O opened = beneficiary_booked s (beginning O) (beginning_sound s O opened) (beginning_closed s O opened)

-- all of the beginning is carried
pub begins_carried : (O : Opening) (p : ℕ) → carried (beginning O p) ≡ beginning O p
begins_carried First p = refl
begins_carried (FromBooks books) p = carried_opened (books p)

pub beginning_living : (s : HubSettings) (O : Opening) → IsOpening s O → Living (beginning O)
beginning_living s O opened q from id e =
    ap (λ C. is_none (booked from id C)) (begins_carried O q) ∙ go (booked from id (beginning O q)) (booked from id (beginning O from)) refl refl
    ∙ sym (ap (λ C. is_none (booked from id C)) (begins_carried O from))
  where
    go : (here there : Option Outcome) → booked from id (beginning O q) ≡ here → booked from id (beginning O from) ≡ there → is_none here ≡ is_none there
    go None None here there = refl
    go (Some o) (Some p) here there = refl
    go (Some o) None here there = let e : None ≡ Some o = sym there ∙ beginning_booked s O opened q from id o here in cc
    go None (Some o) here there =
        let event = forwarding_there from id (beginning O q) e in
        let was : Contains (beginning O q) (Booked from id o) =
        (beginning_closed s O opened).beneficiary_booked from id q event.0 event.1 from o event.2 (booked_there from id o (beginning O from) there) in
        let f : None ≡ Some o = sym here ∙ booked_found s q (beginning O q) from id o (beginning_sound s O opened q) was in cc
