-- Books of all participants over one board fit one another; once all are settled they are closed. A transfer's outcome is
-- what its originator had booked before the opening, or what the board has at its place.
use Rattle.std.proofs.Common.{◌≡◌, ◌≢◌, ℕ, ◌<◌, arith, true, List, [], take, inl, inr, ◌⊎◌, refl, sym, ap, ◌∙◌, subst, Option, Some, None, is_none, is_some}
use Rattle.std.specs.Prelude.{slice_get, Contains}
use Rattle.std.proofs.lemmas.Bool.{ltb-true}
use Rattle.std.proofs.lemmas.List.Elements.{Contains-append_left}
use Rattle.inst_board.proofs.FactsOfOneStandingAgree.{same_terms, same_due, same_decided}
use Rattle.inst_base.specs.TimeLimit.{deadline_of}
use Rattle.inst_settings.specs.Settings.{HubSettings, participants}
use Rattle.inst_command.specs.declared.entry.Entry.{Entry}
use Rattle.inst_command.specs.declared.outcome.Outcome.{Outcome}
use Rattle.inst_command.specs.declared.outcome.Outcome.TheVariants.{Accepted}
use Rattle.inst_terms.specs.declared.terms.Terms.{Terms}
use Rattle.inst_command.specs.declared.place.Place.{Place}
use Rattle.inst_board.specs.declared.about.About.TheVariants.{Opened, HasTerms, Due, Decided}
use Rattle.inst_board.specs.declared.about.Fact.{Fact}
use Rattle.inst_board.specs.Standing.{about}
use Rattle.inst_board.specs.Laws.{KnowsOpening}
use Rattle.inst_journal.specs.declared.event.Event.{Event}
use Rattle.inst_journal.specs.declared.event.Event.TheVariants.{Taken, Forwarded, Booked}
use Rattle.inst_journal.specs.Booked.{is_forwarded, booked}
use Rattle.inst_journal.specs.Opened.{carried, current, is_live, takes_live, live_taken}
use Rattle.inst_journal.specs.Reply.{inbox}
use Rattle.inst_journal.specs.Sound.{IsSound, TakenFits, ForwardedFits}
use Rattle.inst_journal.proofs.EventsCarriedOverOpening.{carried_front, carried_booked, carried_unbooked}
use Rattle.inst_model.specs.Closing.{AreClosed}
use Rattle.inst_model.specs.Fit.{BooksFit, BooksAreClosed}
use Rattle.inst_model.specs.Opening.{Opening, IsOpening, beginning}
use Rattle.inst_model.specs.Transfer.{Transfer, transfer}
use Rattle.inst_model.proofs.TextsTestsAndFirstThings.{or_else_kept}
use Rattle.inst_model.specs.Transfer.{terms_named}
use Rattle.inst_model.proofs.HistoriesBeginSoundAndClosed.{beginning_sound, beginning_closed, beginning_booked, beginning_accepted}
use Rattle.inst_model.proofs.BookingsAreOfParties.{booked_party, booked_found}
use Rattle.inst_model.proofs.Events.{taken_found, booked_there}
use Rattle.inst_model.proofs.MirrorOfFittingHistories.{forwarding_there}
use Rattle.inst_model.proofs.HistoryKeepsWhatItHas.{is_none_of}
use Rattle.inst_model.proofs.LiveTransfersOnBothSides.{came_as_taken}
use Rattle.inst_model.proofs.Transfers.{as_transfer}
use Rattle.inst_slot.specs.declared.arrival.Arrival.{Arrival}
use Rattle.inst_slot.specs.Book.{events_of, Book, place_at, terms_to}
use Rattle.inst_slot.proofs.LiveTransfersAfterEvent.{slice_get_at, filtered}
use Rattle.inst_slot.proofs.BoardStaysLawful.{lying}
use Rattle.inst_slot.proofs.ResolutionFitsBooks.{taken_below}
use Rattle.inst_ledger.proofs.HistoryEventByEvent.{fits_at_place}
use Rattle.inst_participant.specs.Together.{histories, IsMemberBook, AreTogether, HasSettledAll, AllAreSettled}
use Rattle.inst_command.specs.declared.outcome.State.TheVariants.{Unused as StateUnused}
use Rattle.inst_slot.specs.OwnState.{booked_state, state_of_taken}
use Rattle.inst_participant.specs.InTheBooks.{IsInTheBooks}
use Rattle.inst_participant.proofs.PlacesInLists.{got, in_filtered, some_same, none_some, is_none_true, the_some, in_inbox, of_entry, same_forwarding, one_place}
use Rattle.inst_journal.proofs.FirstSome.{first_some-append}

taken_fits : (s : HubSettings) (who : ℕ) (J : List Event) (id : List ℕ) (to cents stamp : ℕ) → IsSound s who J → Contains J (Taken id to cents stamp) → (to < participants s) × (to ≢ who)
taken_fits s who J id to cents stamp sound (i, below, is) =
    let f : TakenFits s who (take i J) id to cents stamp = fits_at_place s who J J i (Taken id to cents stamp) refl sound below (sym is) in
    (ltb-true to (participants s) f.beneficiary, f.another)

forwarded_fits : (s : HubSettings) (who : ℕ) (J : List Event) (from : ℕ) (id : List ℕ) (cents d : ℕ) → IsSound s who J → Contains J (Forwarded from id cents d) → (from < participants s) × (from ≢ who)
forwarded_fits s who J from id cents d sound (i, below, is) =
    let f : ForwardedFits s who (take i J) from id = fits_at_place s who J J i (Forwarded from id cents d) refl sound below (sym is) in
    (ltb-true from (participants s) f.originator, f.another)

-- what was carried is in the history
from_carried : (J : List Event) (e : Event) → Contains (carried J) e → Contains J e
from_carried J e there = subst (λ (l : List Event). Contains l e) (carried_front J) (Contains-append_left (carried J) (current J) e there)

module _ {B : Type 0} (settings : B → HubSettings) (knows : B → Fact → Type 0) (has_role : B → ℕ → Type 0) (b : B) (s : HubSettings) (O : Opening) (opened : IsOpening s O)
    (books : List Book) (t : AreTogether settings knows has_role b s O books) where
  abbrev J : ℕ → List Event
  J p = histories books p

  abbrev at : ℕ → List Arrival → Book
  at p A = record { settings = s; who = p; events = J p; arrivals = A }

  -- the book of a participant
  record Here (p : ℕ) : Type 0 where
    pub arrivals : List Arrival
    pub there : slice_get books p ≡ Some (at p arrivals)
    pub is : IsMemberBook settings knows has_role b s O p (at p arrivals)

  normal : (p : ℕ) (book : Book) → slice_get books p ≡ Some book → book ≡ at p book.arrivals
  normal p book there =
      let m = t.member p book there in
      let e : book.events ≡ J p = sym (ap events_of there) in
      ap (λ (x : HubSettings). let y : Book = record { settings = x; who = book.who; events = book.events; arrivals = book.arrivals } in y) m.settings_are
      ∙ (ap (λ (q : ℕ). let y : Book = record { settings = s; who = q; events = book.events; arrivals = book.arrivals } in y) m.who_is
      ∙ ap (λ (l : List Event). let y : Book = record { settings = s; who = p; events = l; arrivals = book.arrivals } in y) e)

  here_at : (p : ℕ) (book : Book) → slice_get books p ≡ Some book → Here p
  here_at p book there =
      let both = subst (λ (x : Book). (slice_get books p ≡ Some x) × IsMemberBook settings knows has_role b s O p x) (normal p book there) (there, t.member p book there) in
      record { arrivals = book.arrivals; there = both.0; is = both.1 }

  here : (p : ℕ) → p < participants s → Here p
  here p below = let x = slice_get_at books p (omega (arith, below, t.one_each)) in here_at p x.0 x.1

  here_of : (p : ℕ) (e : Event) → Contains (J p) e → Here p
  here_of p e there = go (slice_get books p) refl
    where
      go : (o : Option Book) → slice_get books p ≡ o → Here p
      go None is = let c : Contains [] e = subst (λ (o : Option Book). Contains (events_of o) e) is there in absurd (omega (arith, c.1))
      go (Some book) is = here_at p book is

  sound_at : (p : ℕ) → IsSound s p (J p)
  sound_at p = go (slice_get books p) refl
    where
      go : (o : Option Book) → slice_get books p ≡ o → IsSound s p (J p)
      go None is = subst (λ (o : Option Book). IsSound s p (events_of o)) (sym is) tt
      go (Some book) is = (here_at p book is).is.sound

  -- what it began with is in the history
  begun : (p : ℕ) (e : Event) → Here p → Contains (beginning O p) e → Contains (J p) e
  begun p e h there = from_carried (J p) e (subst (λ (l : List Event). Contains l e) (sym h.is.since) there)

  booked_first : (p from : ℕ) (id : List ℕ) (o : Outcome) → Here p → booked from id (carried (J p)) ≡ Some o → booked from id (beginning O p) ≡ Some o
  booked_first p from id o h e = ap (booked from id) (sym h.is.since) ∙ e

  first_booked : (p from : ℕ) (id : List ℕ) (o : Outcome) → Here p → booked from id (beginning O p) ≡ Some o → booked from id (carried (J p)) ≡ Some o
  first_booked p from id o h e = ap (booked from id) h.is.since ∙ e

  -- who forwarded to a participant, or books, is one
  forwarder : (p from : ℕ) (id : List ℕ) (cents d : ℕ) → Contains (J p) (Forwarded from id cents d) → Here from
  forwarder p from id cents d there = here from (forwarded_fits s p (J p) from id cents d (sound_at p) there).0

  originator : (p from : ℕ) (id : List ℕ) (o : Outcome) → Here p → booked from id (J p) ≡ Some o → Here from
  originator p from id o h e = elim (booked_party s p from id o (J p) h.is.sound e) [
    | inl own ↦ subst Here (sym own.0) h
    | inr came ↦ let f = forwarding_there from id (J p) came in forwarder p from id f.0 f.1 f.2
  ]

  beneficiary : (from to : ℕ) (id : List ℕ) (cents stamp : ℕ) → Contains (J from) (Taken id to cents stamp) → Here to
  beneficiary from to id cents stamp there = here to (taken_fits s from (J from) id to cents stamp (sound_at from) there).0

  -- a live transfer of this originator lies at this index, and the board has its opening there
  record Lies (from : ℕ) (id : List ℕ) (index : ℕ) : Type 0 where
    pub to : ℕ
    pub cents : ℕ
    pub stamp : ℕ
    pub there : slice_get (live_taken from (J from)) index ≡ Some (Taken id to cents stamp)
    pub taken : Contains (J from) (Taken id to cents stamp)
    pub unbooked : booked from id (carried (J from)) ≡ None
    pub known : KnowsOpening knows b (place_at from index) (terms_to to cents id) (deadline_of s.limit stamp)

  lies : (from index : ℕ) (id : List ℕ) (to cents stamp : ℕ) → Here from → slice_get (live_taken from (J from)) index ≡ Some (Taken id to cents stamp) → Lies from id index
  lies from index id to cents stamp h e =
      let f = filtered (takes_live from (carried (J from))) (J from) index (Taken id to cents stamp) e in
      record {
        to = to;
        cents = cents;
        stamp = stamp;
        there = e;
        taken = f.0;
        unbooked = is_none_true (booked from id (carried (J from))) f.1;
        known = h.is.lawful.taken_known index id to cents stamp e;
      }

  -- what the board knows opened lies there
  opened_there : (from index : ℕ) → Here from → knows b (about (place_at from index) Opened) → (id : List ℕ) × Lies from id index
  opened_there from index h kn =
      let x = taken_below (at from h.arrivals) index (h.is.lawful.only_taken index kn) in
      (x.id, lies from index x.id x.at.to x.at.cents x.at.stamp h x.at.there)

  -- with these terms and this deadline
  with_terms : (from index : ℕ) (id : List ℕ) (u : Terms) (d : ℕ) → Here from → (l : Lies from id index) → KnowsOpening knows b (place_at from index) u d → (u ≡ terms_to l.to l.cents id) × (d ≡ deadline_of s.limit l.stamp)
  with_terms from index id u d h l k =
      let truth = h.is.lawful.truly (place_at from index) in
      let v : Terms = terms_to l.to l.cents id in (
        same_terms truth.0 u v (truth.2 (HasTerms u) k.terms) (truth.2 (HasTerms v) l.known.terms),
        same_due truth.0 d (deadline_of s.limit l.stamp) (truth.2 (Due d) k.due) (truth.2 (Due (deadline_of s.limit l.stamp)) l.known.due),
      )

  -- what the board knows opened is addressed to a participant
  pub addressed : (k : Place) (u : Terms) → k.owner < participants s → knows b (about k Opened) → knows b (about k (HasTerms u)) → u.to < participants s
  addressed k u below kn has =
      let h = here k.owner below in
      let o = opened_there k.owner k.index h kn in
      let l = o.1 in
      let v : Terms = terms_to l.to l.cents o.0 in
      let truth = h.is.lawful.truly k in
      let same : u ≡ v = same_terms truth.0 u v (truth.2 (HasTerms u) has) (truth.2 (HasTerms v) l.known.terms) in
      subst (λ (q : ℕ). q < participants s) (ap (λ (x : Terms). x.to) (sym same)) (taken_fits s k.owner (J k.owner) o.0 l.to l.cents l.stamp (sound_at k.owner) l.taken).0

  -- an originator's places are opened in order
  pub opened_before : (k : Place) (index : ℕ) → k.owner < participants s → index < k.index → knows b (about k Opened) → knows b (about (place_at k.owner index) Opened)
  opened_before k index below less kn =
      let h = here k.owner below in
      let x = taken_below (at k.owner h.arrivals) index (omega (arith, less, h.is.lawful.only_taken k.index kn)) in
      (h.is.lawful.taken_known index x.id x.at.to x.at.cents x.at.stamp x.at.there).opened

  -- a transfer that was taken and is live lies somewhere
  taken_lies : (from : ℕ) (id : List ℕ) (to cents stamp : ℕ) → Here from → Contains (J from) (Taken id to cents stamp) → booked from id (carried (J from)) ≡ None → (index : ℕ) × Lies from id index
  taken_lies from id to cents stamp h taken none =
      let c = in_filtered (takes_live from (carried (J from))) (J from) (Taken id to cents stamp) taken (ap is_none none) in
      let g = got (live_taken from (J from)) (Taken id to cents stamp) c in
      (g.0, lies from g.0 id to cents stamp h g.1)

  same_place : (from i j : ℕ) (id : List ℕ) → Lies from id i → Lies from id j → i ≡ j
  same_place from i j id l m = one_place s from (J from) (carried (J from)) id i j l.to l.cents l.stamp m.to m.cents m.stamp (sound_at from) l.there m.there

  -- a transfer of an originator is taken with one beneficiary, amount and stamp
  same_taking : (from : ℕ) (id : List ℕ) (to cents stamp to_too cents_too stamp_too : ℕ) → Contains (J from) (Taken id to cents stamp) → Contains (J from) (Taken id to_too cents_too stamp_too) → as_transfer id to cents stamp ≡ as_transfer id to_too cents_too stamp_too
  same_taking from id to cents stamp to_too cents_too stamp_too one other =
      some_same _ _ (sym (taken_found s from (J from) id to cents stamp (sound_at from) one) ∙ taken_found s from (J from) id to_too cents_too stamp_too (sound_at from) other)

  -- a forwarded transfer that is live lies at the place of its arrival
  record Came (p from : ℕ) (id : List ℕ) (cents d : ℕ) (A : List Arrival) : Type 0 where
    pub arrival : Arrival
    pub there : Contains A arrival
    pub entry_is : arrival.entry ≡ record { from = from; id = id; cents = cents; deadline = d }
    pub index : ℕ
    pub index_is : arrival.index ≡ Some index
    pub lies : Lies from id index
    pub to_is : lies.to ≡ p
    pub cents_is : lies.cents ≡ cents
    pub deadline_is : deadline_of s.limit lies.stamp ≡ d

  came : (p from : ℕ) (id : List ℕ) (cents d : ℕ) → (h : Here p) → Contains (J p) (Forwarded from id cents d) → booked from id (carried (J p)) ≡ None → Came p from id cents d h.arrivals
  came p from id cents d h there none =
      let e : Entry = record { from = from; id = id; cents = cents; deadline = d } in
      let inside = in_filtered (λ (x : Entry). is_live x.from x.id (J p)) (inbox (J p)) e (in_inbox (J p) from id cents d there) (ap is_none none) in
      let y = of_entry h.arrivals e (subst (λ (l : List Entry). Contains l e) (sym h.is.lawful.arrived) inside) in
      let index = the_some y.0.index (h.is.adopted y.0 y.1) in
      let raw = h.is.lawful.forwarded_known y.0 index.0 y.1 index.1 in
      let known : KnowsOpening knows b (place_at from index.0) (terms_to p cents id) d = subst (λ (x : Entry). KnowsOpening knows b (place_at x.from index.0) (terms_to p x.cents x.id) x.deadline) y.2 raw in
      let g = forwarder p from id cents d there in
      let o = opened_there from index.0 g known.opened in
      let w = with_terms from index.0 o.0 (terms_to p cents id) d g o.1 known in
      let named : o.0 ≡ id = ap (λ (x : Terms). x.id) (sym w.0) in
      rest y.0 y.1 y.2 index.0 index.1 o.0 o.1 named (ap (λ (x : Terms). x.to) (sym w.0)) (ap (λ (x : Terms). x.cents) (sym w.0)) (sym w.1)
    where
      rest : (y : Arrival) → Contains h.arrivals y → y.entry ≡ record { from = from; id = id; cents = cents; deadline = d } → (index : ℕ) → y.index ≡ Some index → (name : List ℕ) (l : Lies from name index) → name ≡ id
          → l.to ≡ p → l.cents ≡ cents → deadline_of s.limit l.stamp ≡ d → Came p from id cents d h.arrivals
      rest y inside entry index is name l named to amount ends =
          let L : List ℕ → Type 0 = λ (i : List ℕ). (m : Lies from i index) × (m.to ≡ p) × (m.cents ≡ cents) × (deadline_of s.limit m.stamp ≡ d) in
          let m = subst L named (l, to, amount, ends) in
          record { arrival = y; there = inside; entry_is = entry; index = index; index_is = is; lies = m.0; to_is = m.1; cents_is = m.2; deadline_is = m.3 }

  -- what was forwarded was taken
  was_taken : (p from : ℕ) (id : List ℕ) (cents d : ℕ) → Contains (J p) (Forwarded from id cents d) → (stamp : ℕ) × Contains (J from) (Taken id p cents stamp) × (deadline_of s.limit stamp ≡ d)
  was_taken p from id cents d there = go (booked from id (carried (J p))) refl
    where
      h : Here p
      h = here_of p (Forwarded from id cents d) there

      go : (o : Option Outcome) → booked from id (carried (J p)) ≡ o → (stamp : ℕ) × Contains (J from) (Taken id p cents stamp) × (deadline_of s.limit stamp ≡ d)
      go None none =
          let c = came p from id cents d h there none in
          let l = c.lies in
          let to : Contains (J from) (Taken id p l.cents l.stamp) = subst (λ (q : ℕ). Contains (J from) (Taken id q l.cents l.stamp)) c.to_is l.taken in
          (l.stamp, subst (λ (n : ℕ). Contains (J from) (Taken id p n l.stamp)) c.cents_is to, c.deadline_is)
      go (Some o) some = elim (booked_party s p from id o (beginning O p) (beginning_sound s O opened p) (booked_first p from id o h some)) [
        | inl own ↦ absurd ((forwarded_fits s p (J p) from id cents d h.is.sound there).1 own.0)
        | inr before ↦
            let f = forwarding_there from id (beginning O p) before in
            let same = same_forwarding s p (J p) from id f.0 f.1 cents d h.is.sound (begun p (Forwarded from id f.0 f.1) h f.2) there in
            let w = (beginning_closed s O opened).fit.forwarded_is_taken p from id f.0 f.1 f.2 in
            let taken = begun from (Taken id p f.0 w.0) (forwarder p from id cents d there) w.1 in
            (w.0, subst (λ (n : ℕ). Contains (J from) (Taken id p n w.0)) same.0 taken, w.2 ∙ same.1)
      ]

  -- the outcome that the board has at the place of a live transfer
  record Ends (from : ℕ) (id : List ℕ) (o : Outcome) : Type 0 where
    pub index : ℕ
    pub lies : Lies from id index
    pub decided : knows b (about (place_at from index) (Decided o))

  -- the outcome of a transfer
  abbrev Truth : ℕ → List ℕ → Outcome → Type 0
  Truth from id o = (booked from id (carried (J from)) ≡ Some o) ⊎ Ends from id o

  truth : (p from : ℕ) (id : List ℕ) (o : Outcome) → Here p → booked from id (J p) ≡ Some o → Truth from id o
  truth p from id o h e = go (booked from id (carried (J p))) refl
    where
      g : Here from
      g = originator p from id o h e

      go : (z : Option Outcome) → booked from id (carried (J p)) ≡ z → Truth from id o
      go (Some z) some =
          let same : z ≡ o = some_same z o (sym (carried_booked from id (J p) z some) ∙ e) in
          let first : booked from id (beginning O p) ≡ Some o = booked_first p from id o h (some ∙ ap (λ (y : Outcome). Some y) same) in
          inl (first_booked from from id o g (beginning_booked s O opened p from id o first))
      go None none =
          let end = h.is.lawful.booked_known from id o e (ap is_none none) in
          let l = lying settings knows has_role b (at p h.arrivals) from id end.index h.is.lawful end.lies in
          let x = opened_there from end.index g l.known.opened in
          let w = with_terms from end.index x.0 l.terms l.deadline g x.1 l.known in
          let named : x.0 ≡ id = ap (λ (u : Terms). u.id) (sym w.0) ∙ l.id_is in
          inr (record { index = end.index; lies = subst (λ (i : List ℕ). Lies from i end.index) named x.1; decided = end.known })

  -- there is one
  one_truth : (from : ℕ) (id : List ℕ) (o z : Outcome) → Here from → Truth from id o → Truth from id z → o ≡ z
  one_truth from id o z g (inl a) (inl c) = some_same o z (sym a ∙ c)
  one_truth from id o z g (inl a) (inr c) = absurd (none_some (booked from id (carried (J from))) o c.lies.unbooked a)
  one_truth from id o z g (inr a) (inl c) = absurd (none_some (booked from id (carried (J from))) z a.lies.unbooked c)
  one_truth from id o z g (inr a) (inr c) =
      let at_one : c.index ≡ a.index = same_place from c.index a.index id c.lies a.lies in
      let true_of = g.is.lawful.truly (place_at from a.index) in
      same_decided true_of.0 o z (true_of.2 (Decided o) a.decided) (true_of.2 (Decided z) (subst (λ (n : ℕ). knows b (about (place_at from n) (Decided z))) at_one c.decided))

  booked_is : (p from : ℕ) (id : List ℕ) (o : Outcome) → Contains (J p) (Booked from id o) → booked from id (J p) ≡ Some o
  booked_is p from id o there = booked_found s p (J p) from id o (sound_at p) there

  truth_of : (p from : ℕ) (id : List ℕ) (o : Outcome) → Contains (J p) (Booked from id o) → Here from × Truth from id o
  truth_of p from id o there =
      let h = here_of p (Booked from id o) there in
      (originator p from id o h (booked_is p from id o there), truth p from id o h (booked_is p from id o there))

  -- what an originator paid its beneficiary received
  received : (from : ℕ) (id : List ℕ) (to cents stamp : ℕ) → Contains (J from) (Taken id to cents stamp) → Contains (J from) (Booked from id Accepted) → Contains (J to) (Booked from id Accepted)
  received from id to cents stamp taken paid = elim (truth_of from from id Accepted paid).1 [
    | inl before ↦
        let first : booked from id (beginning O from) ≡ Some Accepted = booked_first from from id Accepted h before in
        let a = beginning_accepted s O opened from id first in
        let x : Transfer = a.0 in
        let whole : transfer id (J from) ≡ Some x =
        ap (transfer id) (sym (carried_front (J from))) ∙ (first_some-append (terms_named id) (carried (J from)) (current (J from))
        ∙ or_else_kept (transfer id (carried (J from))) (transfer id (current (J from))) x (ap (transfer id) h.is.since ∙ a.1)) in
        let is : x ≡ as_transfer id to cents stamp = some_same x (as_transfer id to cents stamp) (sym whole ∙ taken_found s from (J from) id to cents stamp (sound_at from) taken) in
        let there : booked from id (beginning O to) ≡ Some Accepted = subst (λ (q : ℕ). booked from id (beginning O q) ≡ Some Accepted) (ap (λ (y : Transfer). y.to) is) a.2 in
        booked_there from id Accepted (J to) (carried_booked from id (J to) Accepted (first_booked to from id Accepted g there))
    | inr ends ↦
        let l = ends.lies in
        let same = same_taking from id l.to l.cents l.stamp to cents stamp l.taken taken in
        let mine : l.to ≡ to = ap (λ (y : Transfer). y.to) same in
        booked_there from id Accepted (J to) (g.is.lawful.answered (place_at from ends.index) (terms_to l.to l.cents id) Accepted mine tt l.known.terms ends.decided)
  ]
    where
      h : Here from
      h = here_of from (Taken id to cents stamp) taken

      g : Here to
      g = beneficiary from to id cents stamp taken

  pub books_fit : BooksFit s (histories books)
  books_fit = record {
    forwarded_is_taken = λ p from id cents d there. was_taken p from id cents d there;
    both_book_the_same = λ p q from id one other here_too there.
        let x = truth_of p from id one here_too in
        one_truth from id one other x.0 x.1 (truth_of q from id other there).1;
    paid_is_received = λ from id to cents stamp taken paid. received from id to cents stamp taken paid;
  }

  module _ (settled : AllAreSettled knows b books) where
    settled_at : (p : ℕ) → (h : Here p) → HasSettledAll knows b (at p h.arrivals)
    settled_at p h = settled p (at p h.arrivals) h.there

    -- what is booked at all is booked with the transfer's outcome
    exactly : (p from : ℕ) (id : List ℕ) (o : Outcome) → Here p → Here from → Truth from id o → is_some (booked from id (J p)) ≡ true → booked from id (J p) ≡ Some o
    exactly p from id o h g true_is some =
        let z = the_some (booked from id (J p)) some in
        z.1 ∙ ap (λ (y : Outcome). Some y) (one_truth from id z.0 o g (truth p from id z.0 h z.1) true_is)

    own_booked : (from : ℕ) (id : List ℕ) (o : Outcome) → Here from → Truth from id o → booked from id (J from) ≡ Some o
    own_booked from id o h (inl before) = carried_booked from id (J from) o before
    own_booked from id o h (inr ends) = exactly from from id o h h (inr ends) ((settled_at from h).own ends.index id ends.lies.to ends.lies.cents ends.lies.stamp o ends.lies.there ends.decided)

    other_booked : (from to : ℕ) (id : List ℕ) (cents d : ℕ) (o : Outcome) → Contains (J to) (Forwarded from id cents d) → Truth from id o → booked from id (J to) ≡ Some o
    other_booked from to id cents d o there true_is = go (booked from id (carried (J to))) refl
      where
        h : Here to
        h = here_of to (Forwarded from id cents d) there

        g : Here from
        g = forwarder to from id cents d there

        go : (z : Option Outcome) → booked from id (carried (J to)) ≡ z → booked from id (J to) ≡ Some o
        go (Some z) some =
            let whole : booked from id (J to) ≡ Some z = carried_booked from id (J to) z some in
            whole ∙ ap (λ (y : Outcome). Some y) (one_truth from id z o g (truth to from id z h whole) true_is)
        go None none = arrived (came to from id cents d h there none) true_is
          where
            arrived : Came to from id cents d h.arrivals → Truth from id o → booked from id (J to) ≡ Some o
            arrived c (inl before) = absurd (none_some (booked from id (carried (J from))) o c.lies.unbooked before)
            arrived c (inr ends) =
                let at_one : ends.index ≡ c.index = same_place from ends.index c.index id ends.lies c.lies in
                let key_from : c.arrival.entry.from ≡ from = ap (λ (e : Entry). e.from) c.entry_is in
                let key_id : c.arrival.entry.id ≡ id = ap (λ (e : Entry). e.id) c.entry_is in
                let kn : knows b (about (place_at c.arrival.entry.from c.index) (Decided o)) =
                subst (λ (q : ℕ). knows b (about (place_at q c.index) (Decided o))) (sym key_from) (subst (λ (n : ℕ). knows b (about (place_at from n) (Decided o))) at_one ends.decided) in
                let is = (settled_at to h).arrived c.arrival c.index o c.there c.index_is kn in
                exactly to from id o h g (inr ends)
                (subst (λ (i : List ℕ). is_some (booked from i (J to)) ≡ true) key_id (subst (λ (q : ℕ). is_some (booked q c.arrival.entry.id (J to)) ≡ true) key_from is))

    came_if_pending : (from : ℕ) (id : List ℕ) (to cents stamp : ℕ) → Contains (J from) (Taken id to cents stamp) → ((p : ℕ) (o : Outcome) → Contains (J p) (Booked from id o) → ⊥) → is_forwarded from id (J to) ≡ true
    came_if_pending from id to cents stamp taken nobody =
        let h = here_of from (Taken id to cents stamp) taken in
        let g = beneficiary from to id cents stamp taken in
        let none : booked from id (J from) ≡ None = is_none_of (booked from id (J from)) (λ o some. nobody from o (booked_there from id o (J from) some)) in
        let x = taken_lies from id to cents stamp h taken (carried_unbooked from id (J from) none) in
        let l = x.1 in
        let same = same_taking from id l.to l.cents l.stamp to cents stamp l.taken taken in
        elim ((settled_at to g).come (place_at from x.0) (terms_to l.to l.cents id) (λ e. (taken_fits s from (J from) id to cents stamp (sound_at from) taken).1 (sym e)) (ap (λ (y : Transfer). y.to) same) l.known.opened l.known.terms) [
          | inl there ↦ there
          | inr ended ↦
              let is : booked from id (J from) ≡ Some ended.0 = own_booked from id ended.0 h (inr (record { index = x.0; lies = l; decided = ended.1 })) in
              absurd (none_some (booked from id (J from)) ended.0 none is)
        ]

    pub books_closed : BooksAreClosed s (histories books)
    books_closed = record {
      fit = books_fit;
      originator_booked = λ from id to cents stamp p o taken there.
          booked_there from id o (J from) (own_booked from id o (here_of from (Taken id to cents stamp) taken) (truth_of p from id o there).1);
      beneficiary_booked = λ from id to cents d p o forwarded there.
          booked_there from id o (J to) (other_booked from to id cents d o forwarded (truth_of p from id o there).1);
      pending_is_forwarded = λ from id to cents stamp taken nobody.
          came_as_taken s (histories books) sound_at books_fit from to id cents stamp taken (came_if_pending from id to cents stamp taken nobody);
    }

    pub are_closed : AreClosed s (histories books)
    are_closed = record { sound = sound_at; closed = books_closed }

    -- what is known of a place is told
    pub in_the_books : (k : Place) → k.owner < participants s → knows b (about k Opened) → IsInTheBooks knows b (histories books) k
    in_the_books k below kn =
        let h = here k.owner below in
        let o = opened_there k.owner k.index h kn in
        let l = o.1 in
        record {
          used = λ e. used_state (booked k.owner o.0 (J k.owner)) (sym (ap (state_of_taken k.owner (J k.owner)) l.there) ∙ e);
          terms = λ t has.
              let v : Terms = terms_to l.to l.cents o.0 in
              let truth = h.is.lawful.truly k in
              let same : v ≡ t = same_terms truth.0 v t (truth.2 (HasTerms v) l.known.terms) (truth.2 (HasTerms t) has) in
              (l.stamp, subst (λ (u : Terms). slice_get (live_taken k.owner (J k.owner)) k.index ≡ Some (Taken u.id u.to u.cents l.stamp)) same l.there);
          outcome = λ z ended. ap (state_of_taken k.owner (J k.owner)) l.there ∙ ap booked_state (own_booked k.owner o.0 z h (inr (record { index = k.index; lies = l; decided = ended })));
        }
      where
        used_state : (z : Option Outcome) → booked_state z ≡ StateUnused → ⊥
        used_state None e = cc
        used_state (Some z) e = cc
