-- A history that is sound can be written: whom its events name are participants.
use Rattle.std.proofs.Common.{◌≡◌, inl, inr, ℕ, true, ◌==◌, List, [], ◌∷◌, ◌++◌, refl, sym, ap, ◌∙◌}
use Rattle.std.specs.List.{list_all}
use Rattle.std.proofs.lemmas.Bool.{and_parts, or_cases, eqb-true, false≢true}
use Rattle.std.proofs.lemmas.List.Folds.{list_all-append}
use Rattle.inst_settings.specs.Settings.{HubSettings, same_text, is_participant}
use Rattle.inst_journal.specs.declared.event.Event.{Event}
use Rattle.inst_journal.specs.declared.event.Event.TheVariants.{Funded, Defunded, Taken, Forwarded, Booked, Fetched, Opened}
use Rattle.inst_journal.specs.Booked.{forwards, is_forwarded}
use Rattle.inst_journal.specs.Sound.{Fits, FitAfter, IsSound}
use Rattle.inst_books.specs.Events.{event_can_be_written}

module _ (s : HubSettings) where
  abbrev Writable : List Event → Type 0
  Writable events = list_all (event_can_be_written s) events ≡ true

  -- who forwarded a transfer is a participant
  of_forward : (from : ℕ) (id : List ℕ) (event : Event) → event_can_be_written s event ≡ true → forwards from id event ≡ true → is_participant s from ≡ true
  of_forward from id (Forwarded other_from other cents deadline) writable is =
      ap (is_participant s) (sym (eqb-true other_from from (and_parts (other_from == from) (same_text other id) is).0)) ∙ writable
  of_forward from id (Funded funding) writable is = absurd (false≢true is)
  of_forward from id (Defunded funding) writable is = absurd (false≢true is)
  of_forward from id (Taken other to cents stamp) writable is = absurd (false≢true is)
  of_forward from id (Booked other_from other outcome) writable is = absurd (false≢true is)
  of_forward from id (Fetched count) writable is = absurd (false≢true is)
  of_forward from id Opened writable is = absurd (false≢true is)

  of_forwarded : (from : ℕ) (id : List ℕ) (front : List Event) → Writable front → is_forwarded from id front ≡ true → is_participant s from ≡ true
  of_forwarded from id [] writable is = absurd (false≢true is)
  of_forwarded from id (event ∷ front) writable is =
      let parts = and_parts (event_can_be_written s event) (list_all (event_can_be_written s) front) writable in
      elim (or_cases (forwards from id event) (is_forwarded from id front) is) [
        | inl here ↦ of_forward from id event parts.0 here
        | inr later ↦ of_forwarded from id front parts.1 later
      ]

  fits_writable : (who : ℕ) (front : List Event) (event : Event) → is_participant s who ≡ true → Writable front → Fits s who front event → event_can_be_written s event ≡ true
  fits_writable who front (Funded funding) known writable fits = refl
  fits_writable who front (Defunded funding) known writable fits = refl
  fits_writable who front (Taken id to cents stamp) known writable fits = fits.beneficiary
  fits_writable who front (Forwarded from id cents deadline) known writable fits = fits.originator
  fits_writable who front (Booked from id outcome) known writable fits = elim fits.party [
    | inl own ↦ ap (is_participant s) own.0 ∙ known
    | inr forwarded ↦ of_forwarded from id front writable forwarded
  ]
  fits_writable who front (Fetched count) known writable fits = fits.number
  fits_writable who front Opened known writable fits = refl

  all_after : (who : ℕ) (front events : List Event) → is_participant s who ≡ true → Writable front → FitAfter s who front events → Writable events
  all_after who front [] known writable fit = refl
  all_after who front (event ∷ events) known writable fit =
      let here = fits_writable who front event known writable fit.0 in
      let longer : Writable (front ++ event ∷ []) = list_all-append (event_can_be_written s) front (event ∷ []) ∙ rw (writable, here) refl in
      rw (here, all_after who (front ++ event ∷ []) events known longer fit.1) refl

  pub sound_writable : (who : ℕ) (J : List Event) → is_participant s who ≡ true → IsSound s who J → list_all (event_can_be_written s) J ≡ true
  sound_writable who J known sound = all_after who [] J known refl sound
