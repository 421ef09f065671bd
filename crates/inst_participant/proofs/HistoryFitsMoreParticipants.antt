-- What fits a history fits it with more participants.
use Rattle.std.proofs.Common.{◌≡◌, ℕ, arith, true, List, [], ◌∷◌, ◌++◌, length-append}
use Rattle.std.proofs.lemmas.Bool.{lt-ltb, ltb-true}
use Rattle.inst_settings.specs.Settings.{HubSettings, participants, is_participant}
use Rattle.inst_command.specs.declared.funding.Funding.{Funding}
use Rattle.inst_journal.specs.declared.event.Event.{Event}
use Rattle.inst_journal.specs.declared.event.Event.TheVariants.{Funded, Defunded, Taken, Forwarded, Booked, Fetched, Opened}
use Rattle.inst_journal.specs.Sound.{Fits, FitAfter, FundedFits}
use Rattle.inst_model.specs.Fit.{BooksAreClosed}
use Rattle.inst_participant.specs.Wider.{widened, ClosedBooksStayClosedWider, ClosedBooksOpenWider, ClosedBooksOpenNext}

module _ (s : HubSettings) (codes : List (List ℕ)) where
  still_participant : (p : ℕ) → is_participant s p ≡ true → is_participant (widened s codes) p ≡ true
  still_participant p e = lt-ltb p (participants (widened s codes)) (omega (arith, ltb-true p (participants s) e, length-append s.codes codes))

  still_funded : (J : List Event) (funding : Funding) → FundedFits s J funding → FundedFits (widened s codes) J funding
  still_funded J funding f = record { new = f.new; place = f.place; amount = f.amount }

  still_fits : (who : ℕ) (J : List Event) (e : Event) → Fits s who J e → Fits (widened s codes) who J e
  still_fits who J (Funded funding) f = still_funded J funding f
  still_fits who J (Defunded funding) f = record { funding = still_funded J funding f.funding; cover = f.cover }
  still_fits who J (Taken id to cents stamp) f = record {
    beneficiary = still_participant to f.beneficiary;
    another = f.another;
    deadline = f.deadline;
    new = f.new;
    place = f.place;
    amount = f.amount;
    cover = f.cover;
  }
  still_fits who J (Forwarded from id cents d) f = record { originator = still_participant from f.originator; another = f.another; new = f.new; place = f.place }
  still_fits who J (Booked from id o) f = f
  still_fits who J (Fetched n) f = f
  still_fits who J Opened f = f

  all_fit : (who : ℕ) (front J : List Event) → FitAfter s who front J → FitAfter (widened s codes) who front J
  all_fit who front [] f = tt
  all_fit who front (e ∷ J) f = (still_fits who front e f.0, all_fit who (front ++ e ∷ []) J f.1)

  still_closed : (J : ℕ → List Event) → BooksAreClosed s J → BooksAreClosed (widened s codes) J
  still_closed J c = record {
    fit = record {
      forwarded_is_taken = c.fit.forwarded_is_taken;
      both_book_the_same = c.fit.both_book_the_same;
      paid_is_received = c.fit.paid_is_received;
    };
    originator_booked = c.originator_booked;
    beneficiary_booked = c.beneficiary_booked;
    pending_is_forwarded = c.pending_is_forwarded;
  }

pub closed_wider : ClosedBooksStayClosedWider
closed_wider s codes J c = record { sound = λ p. all_fit s codes p [] (J p) (c.sound p); closed = still_closed s codes J c.closed }

pub open_next : ClosedBooksOpenNext
open_next s J c few = record { sound = c.sound; closed = c.closed; few = few }

pub open_wider : ClosedBooksOpenWider
open_wider s codes J c few = open_next (widened s codes) J (closed_wider s codes J c) few
