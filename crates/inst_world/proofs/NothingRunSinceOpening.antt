-- A hub that opened again from its books has run nothing since, and each carried transfer has its place.
use Rattle.std.proofs.Common.{◌≡◌, ℕ, zero, suc, ◌<◌, Bool, true, false, cond, List, [], ◌∷◌, ◌++◌, Option, Some, None, is_some, refl, sym, ap, subst, ◌∙◌, inl, inr, ◌⊎◌, ⊎_elim, arith, ltb-true}
use Rattle.std.specs.Prelude.{slice_get, map, Contains, IsTrue, nat_lt}
use Rattle.std.specs.List.{filter, cons_option}
use Rattle.std.proofs.lemmas.Bool.{and_parts}
use Rattle.std.proofs.lemmas.List.Elements.{Contains-append_right}
use Rattle.std.proofs.lemmas.Option.{slice_get_within}
use Rattle.inst_settings.specs.Settings.{HubSettings, participants}
use Rattle.inst_command.specs.declared.entry.Entry.{Entry}
use Rattle.inst_command.specs.declared.outcome.Outcome.{Outcome}
use Rattle.inst_command.specs.declared.place.Place.{Place}
use Rattle.inst_board.specs.declared.about.About.TheVariants.{Opened as IsOpened}
use Rattle.inst_board.specs.Standing.{Standing, pending, Says, about, is_place}
use Rattle.inst_board.specs.Plain.{standing_at, plain_knows, known_is_place}
use Rattle.inst_journal.specs.declared.event.Event.{Event}
use Rattle.inst_journal.specs.declared.event.Event.TheVariants.{Funded, Defunded, Taken, Forwarded, Booked, Fetched, Opened}
use Rattle.inst_journal.specs.Opened.{is_live}
use Rattle.inst_journal.specs.Reply.{inbox, entry_of}
use Rattle.inst_model.specs.Opening.{BooksCanOpen}
use Rattle.inst_model.specs.Opening.Opening.{FromBooks}
use Rattle.inst_model.specs.Transfer.{Transfer, at_place, deadline}
use Rattle.inst_model.specs.Hub.{outcome}
use Rattle.inst_model.proofs.HistoriesBeginSoundAndClosed.{beginning_sound}
use Rattle.inst_model.proofs.Events.{taken_found, stands_somewhere}
use Rattle.inst_model.proofs.LiveTransfersOnBothSides.{the_live_are_the_same_on_both_sides}
use Rattle.inst_model.proofs.Transfers.{as_transfer, live_place}
use Rattle.inst_slot.specs.declared.arrival.Arrival.{Arrival}
use Rattle.inst_slot.specs.Book.{events_of, Book, place_at, terms_to}
use Rattle.inst_slot.proofs.LiveTransfersAfterEvent.{slice_get_at}
use Rattle.inst_world.specs.HasRun.{World, world_settings, journal_of, StandsWith, StandsFor, IsBoardOf, terms_of, IsWorld, HasRun}
use Rattle.inst_world.specs.inner.NextOpening.{books_again, AreOpenedAgain, IsCarryingWorld, HaveFoundBefore, OnlyFinds}
use Rattle.inst_world.proofs.PlaceOfKnownTransfer.{same_for}
use Rattle.inst_world.proofs.BoardOfReopenedHub.{again_length, again_at, board_opened, begins_undecided}

-- what comes into the inbox was forwarded so
comes_in : (o : Option Entry) (rest : List Entry) (x : Entry) → Contains (cons_option o rest) x → (o ≡ Some x) ⊎ Contains rest x
comes_in None rest x there = inr there
comes_in (Some y) rest x (zero, below, is) = inl (ap (λ (z : Entry). Some z) is)
comes_in (Some y) rest x (suc i, below, is) = inr (i, omega (arith, below), is)

forwards_this : (event : Event) (x : Entry) → entry_of event ≡ Some x → event ≡ Forwarded x.from x.id x.cents x.deadline
forwards_this (Forwarded from id cents d) x e =
    let same : record { from = from; id = id; cents = cents; deadline = d } ≡ x = cc in
    ap (λ (y : Entry). Forwarded y.from y.id y.cents y.deadline) same
forwards_this (Taken id to cents stamp) x e = let no : ⊥ = cc in absurd no
forwards_this (Funded funding) x e = let no : ⊥ = cc in absurd no
forwards_this (Defunded funding) x e = let no : ⊥ = cc in absurd no
forwards_this (Booked from id o) x e = let no : ⊥ = cc in absurd no
forwards_this (Fetched count) x e = let no : ⊥ = cc in absurd no
forwards_this Opened x e = let no : ⊥ = cc in absurd no

forwarded_so : (J : List Event) (x : Entry) → Contains (inbox J) x → Contains J (Forwarded x.from x.id x.cents x.deadline)
forwarded_so [] x (i, below, is) = absurd (omega (arith, below))
forwarded_so (event ∷ J) x there = ⊎_elim
    (λ here. (zero, omega arith, forwards_this event x here))
    (λ later. Contains-append_right (event ∷ []) J (Forwarded x.from x.id x.cents x.deadline) (forwarded_so J x later))
    (comes_in (entry_of event) (inbox J) x there)

passed_step : (p : Entry → Bool) (y : Entry) (ys zs : List Entry) (x : Entry) (b : Bool) → p y ≡ b → (Contains zs x → Contains ys x × (p x ≡ true)) → Contains (cond b (y ∷ zs) zs) x → Contains (y ∷ ys) x × (p x ≡ true)
passed_step p y ys zs x true here rest (zero, below, is) = ((zero, omega arith, is), ap p (sym is) ∙ here)
passed_step p y ys zs x true here rest (suc i, below, is) = let r = rest (i, omega (arith, below), is) in (Contains-append_right (y ∷ []) ys x r.0, r.1)
passed_step p y ys zs x false here rest h = let r = rest h in (Contains-append_right (y ∷ []) ys x r.0, r.1)

passed : (p : Entry → Bool) (xs : List Entry) (x : Entry) → Contains (filter p xs) x → Contains xs x × (p x ≡ true)
passed p [] x (i, below, is) = absurd (omega (arith, below))
passed p (y ∷ ys) x h = passed_step p y ys (filter p ys) x (p y) refl (λ g. passed p ys x g) h

its_entry : (A : List Arrival) (x : Arrival) → Contains A x → Contains (map (λ (y : Arrival). y.entry) A) x.entry
its_entry [] x (i, below, is) = absurd (omega (arith, below))
its_entry (y ∷ A) x (zero, below, is) = (zero, omega arith, ap (λ (z : Arrival). z.entry) is)
its_entry (y ∷ A) x (suc i, below, is) = Contains-append_right (y.entry ∷ []) (map (λ (z : Arrival). z.entry) A) x.entry (its_entry A x (i, omega (arith, below), is))

-- where a transfer that is live at its beneficiary p lies
pub record LivesAt (s : HubSettings) (J : ℕ → List Event) (p : ℕ) (x : Entry) : Type 0 where
  pub place : ℕ
  pub transfer : Transfer
  pub there : at_place x.from (J x.from ++ Opened ∷ []) place ≡ Some transfer
  pub terms_are : terms_of transfer ≡ terms_to p x.cents x.id
  pub deadline_is : deadline s transfer ≡ x.deadline

module _ (s : HubSettings) (J : ℕ → List Event) (can : BooksCanOpen s J) where
  lives_at : (p : ℕ) (x : Entry) → Contains (J p ++ Opened ∷ []) (Forwarded x.from x.id x.cents x.deadline) → is_live x.from x.id (J p ++ Opened ∷ []) ≡ true → LivesAt s J p x
  lives_at p x came live =
      let sent = (the_live_are_the_same_on_both_sides s (FromBooks J) can [] tt x.from p).what_came_was_sent x.id x.cents x.deadline came live in
      let y : Transfer = as_transfer x.id p x.cents sent.0 in
      let taken = taken_found s x.from (J x.from ++ Opened ∷ []) x.id p x.cents sent.0 (beginning_sound s (FromBooks J) can x.from) sent.1 in
      let somewhere = stands_somewhere x.id (J x.from ++ Opened ∷ []) y taken in
      let at = live_place x.from (J x.from ++ Opened ∷ []) somewhere.0 y somewhere.1 sent.3 in
      record { place = at.0; transfer = y; there = at.1; terms_are = refl; deadline_is = sent.2 }

  module _ (first : World) (opened : AreOpenedAgain s J (participants s) first) (world : World) (finds : OnlyFinds first world) (carrying : IsCarryingWorld world) where
    same : world_settings world ≡ s
    same = finds.settings_are ∙ opened.settings_are

    begins_so : (p : ℕ) → p < participants s → journal_of first p ≡ J p ++ Opened ∷ []
    begins_so p below =
        let n = again_length s J (participants s) in
        let found = slice_get_at (books_again s J (participants s)) p (omega (arith, below, n)) in
        let at = again_at s J (participants s) p found.0 found.1 in
        ap (λ (xs : List Book). events_of (slice_get xs p)) opened.books_are ∙ ap events_of found.1 ∙ ap (λ (b : Book). b.events) at.1

    events_are : (p : ℕ) (book : Book) → slice_get world.books p ≡ Some book → book.events ≡ J p ++ Opened ∷ []
    events_are p book there =
        let below : p < participants s = omega (arith, slice_get_within world.books p book there, carrying.one_each, ap participants same) in
        ap events_of (sym there) ∙ finds.histories p ∙ begins_so p below

    board_is : IsBoardOf s (FromBooks J) [] world.board
    board_is p index =
        let k : Place = place_at p index in
        same_for s (outcome s (FromBooks J) [] p) (at_place p (J p ++ Opened ∷ []) index) (standing_at first.board k) (standing_at world.board k) (finds.board_says k) (board_opened s J can first opened p index)

    pub has_run_none : HasRun (FromBooks J) [] world
    has_run_none =
        let at : HubSettings → Type 0 = λ t. BooksCanOpen t J × IsBoardOf t (FromBooks J) [] world.board in
        let here : at s = (can, board_is) in
        let r : at (world_settings world) = subst at (sym same) here in
        record { opening = r.0; steps = tt; histories = events_are; board = r.1 }

    module _ (found : HaveFoundBefore (participants s) 0 world) where
      all_found : (p : ℕ) (book : Book) → slice_get world.books p ≡ Some book → (x : Arrival) → Contains book.arrivals x → is_some x.index ≡ true
      all_found p book there x has =
          let e : Entry = x.entry in
          let lawful = (carrying.member p book there).lawful in
          let came = passed (λ (y : Entry). is_live y.from y.id book.events) (inbox book.events) e (subst (λ (l : List Entry). Contains l e) lawful.arrived (its_entry book.arrivals x has)) in
          let events : book.events ≡ J p ++ Opened ∷ [] = events_are p book there in
          let at : LivesAt s J p e = lives_at p e (subst (λ (l : List Event). Contains l (Forwarded e.from e.id e.cents e.deadline)) events (forwarded_so book.events e came.0)) (ap (is_live e.from e.id) (sym events) ∙ came.1) in
          let k : Place = place_at e.from at.place in
          let undecided : StandsWith (terms_of at.transfer) (deadline s at.transfer) (outcome s (FromBooks J) [] e.from at.transfer.id) (standing_at world.board k) =
          subst (λ (X : Option Transfer). StandsFor s (outcome s (FromBooks J) [] e.from) X (standing_at world.board k)) at.there (board_is e.from at.place) in
          let stands : standing_at world.board k ≡ pending (terms_of at.transfer) (deadline s at.transfer) =
          subst (λ (o : Option Outcome). StandsWith (terms_of at.transfer) (deadline s at.transfer) o (standing_at world.board k)) (begins_undecided s J can e.from at.place at.transfer at.there) undecided in
          let due : pending (terms_of at.transfer) (deadline s at.transfer) ≡ pending (terms_to p e.cents e.id) e.deadline = λ j. pending (at.terms_are j) (at.deadline_is j) in
          let is : standing_at world.board k ≡ pending (terms_to p e.cents e.id) e.deadline = stands ∙ due in
          let known : plain_knows world.board (about k IsOpened) = subst (λ (q : Standing). Says q IsOpened) (sym is) tt in
          let place : IsTrue (is_place (world_settings world) k) = known_is_place world.board k IsOpened known in
          let parts = and_parts (nat_lt e.from (participants (world_settings world))) (nat_lt at.place (world_settings world).places) place in
          let owner : e.from < participants s = omega (arith, ltb-true e.from (participants (world_settings world)) parts.0, ap participants same) in
          found p book there x has at.place (inl owner) is

      pub is_world_again : IsWorld world
      is_world_again = record {
        one_each = carrying.one_each;
        member = λ p book there.
            let m = carrying.member p book there in
            record { settings_are = m.settings_are; who_is = m.who_is; lawful = m.lawful; adopted = all_found p book there };
      }
