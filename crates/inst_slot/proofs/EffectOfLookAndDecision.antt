-- What a look and a decision do to what a participant's books have to do with its board.
use Rattle.std.proofs.Common.{◌≡◌, ℕ, List, [], ◌∷◌, ◌++◌, inl, inr, ◌⊎◌, ⊎_elim, refl, sym, ap, ◌∙◌, subst, Option, Some, None}
use Rattle.inst_board.proofs.FactsOfOneStandingAgree.{same_terms, same_decided}
use Rattle.inst_settings.specs.Settings.{HubSettings}
use Rattle.inst_command.specs.declared.outcome.Outcome.{Outcome}
use Rattle.inst_terms.specs.declared.terms.Terms.{Terms}
use Rattle.inst_command.specs.declared.place.Place.{Place}
use Rattle.inst_board.specs.declared.wish.Wish.{Wish}
use Rattle.inst_board.specs.declared.look.Look.{Look}
use Rattle.inst_board.specs.declared.look.Look.TheVariants.{Pending as LookPending, Decided as LookDecided}
use Rattle.inst_board.specs.declared.about.About.TheVariants.{Opened, HasTerms, Due, Decided}
use Rattle.inst_board.specs.declared.about.Fact.{Fact}
use Rattle.inst_board.specs.Standing.{Standing, unused, pending, decided, Says, about, look_of}
use Rattle.inst_board.specs.Laws.{KnowsOpening}
use Rattle.inst_board.specs.Learning.{Learns, Looks, Decides, AnswersWish}
use Rattle.inst_journal.specs.declared.event.Event.{Event}
use Rattle.inst_journal.specs.declared.event.Event.TheVariants.{Booked}
use Rattle.inst_journal.specs.Booked.{booked}
use Rattle.inst_slot.specs.Book.{Book, place_at}
use Rattle.inst_slot.specs.LawfulBoard.{LiesAt, KnowsEnd, IsLawfulBoard}
use Rattle.inst_slot.proofs.LiveTransfersAfterEvent.{still_booked, newly_booked, booked_cases}
use Rattle.inst_slot.proofs.BoardStaysLawful.{SameTransfers, same_transfers, same_after, with_events, moved, learnt_own, learnt_truly, learnt_answer, lying, booked_key}

module _ {B : Type 0} (settings : B → HubSettings) (knows : B → Fact → Type 0) (has_role : B → ℕ → Type 0) where
  -- a booking of an outcome that is known
  pub booking_news : (c : B) (book : Book) (from : ℕ) (id : List ℕ) (index : ℕ) (z : Outcome) → LiesAt book from id index → knows c (about (place_at from index) (Decided z))
      → (other : ℕ) (name : List ℕ) (o : Outcome) → booked other name (book.events ++ Booked from id z ∷ []) ≡ Some o → (booked other name book.events ≡ Some o) ⊎ KnowsEnd knows c book other name o
  booking_news c book from id index z lies known other name o e = ⊎_elim
      (λ old. inl old)
      (λ new.
      let key = booked_key other name from id z o new in
      let first : KnowsEnd knows c book from id z = record { index = index; lies = lies; known = known } in
      inr (subst (λ (x : Outcome). KnowsEnd knows c book other name x) key.2 (subst (λ (x : List ℕ). KnowsEnd knows c book other x z) key.1 (subst (λ (x : ℕ). KnowsEnd knows c book x id z) key.0 first))))
      (booked_cases other name book.events (Booked from id z) o e)

  -- a look
  module _ (margin : ℕ) (stood : B → Place → Outcome → Type 0) (b c : B) (k : Place) (look : Look) (h : Looks margin knows has_role stood b k look c) where
    pub looked : (book : Book) (K : List Event) → settings c ≡ settings b → margin ≡ (settings b).margin → (has_role b book.who → has_role c book.who)
        → SameTransfers book.who book.events K
        → ((from : ℕ) (id : List ℕ) (o : Outcome) → booked from id K ≡ Some o → (booked from id book.events ≡ Some o) ⊎ KnowsEnd knows c book from id o)
        → ((from : ℕ) (id : List ℕ) (o : Outcome) → booked from id book.events ≡ Some o → booked from id K ≡ Some o)
        → IsLawfulBoard settings knows has_role b book → IsLawfulBoard settings knows has_role c (with_events book K)
    looked book K same_settings fits role same news kept was = moved settings knows has_role b c book K same_settings (learnt_truly settings knows has_role margin b c k h.standing h.learns book fits was) role h.learns.kept
        (learnt_own settings knows has_role margin b c k h.standing h.learns book.who (λ own says. h.own (subst (λ (x : ℕ). has_role b x) (sym own) was.role) Opened tt says))
        same news
        (λ j t o to an kt kd. ⊎_elim
        (λ old. kept j.owner t.id o (was.answered j t o to an old.0 old.1))
        (λ new.
        let known = h.answered t new.1 (subst (λ (x : ℕ). has_role b x) (sym to) was.role) o an new.2 in
        let here = subst (λ (x : Place). knows b (about x (HasTerms t)) × knows b (about x (Decided o))) (sym new.0) known in
        kept j.owner t.id o (was.answered j t o to an here.0 here.1))
        (learnt_answer settings knows has_role margin b c k h.standing h.learns j t o kt kd))
        was

    -- a look alone
    pub looked_on : (book : Book) → settings c ≡ settings b → margin ≡ (settings b).margin → (has_role b book.who → has_role c book.who) → IsLawfulBoard settings knows has_role b book → IsLawfulBoard settings knows has_role c book
    looked_on book same_settings fits role was = looked book book.events same_settings fits role (same_transfers book.who book.events) (λ from id o e. inl e) (λ from id o e. e) was

    pub saw_pending : (t : Terms) (d : ℕ) → look ≡ LookPending t d → KnowsOpening knows c k t d
    saw_pending t d e = pend h.standing h.learns (sym e ∙ h.look_is) where
      pend : (p : Standing) → Learns margin knows b k p c → LookPending t d ≡ look_of p → KnowsOpening knows c k t d
      pend unused l f = let no : ⊥ = cc in absurd no
      pend (pending u e) l f = let x : t ≡ u = cc in let y : d ≡ e = cc in record { opened = l.shown Opened tt; terms = l.shown (HasTerms t) x; due = l.shown (Due d) y }
      pend (decided u e o m) l f = let no : ⊥ = cc in absurd no

    -- what was known of a place that is seen pending
    pub saw_same : (t : Terms) (d : ℕ) → look ≡ LookPending t d → (u : Terms) → knows b (about k (HasTerms u)) → u ≡ t
    saw_same t d e u kn = pend h.standing (sym e ∙ h.look_is) (h.learns.agrees (HasTerms u) kn) where
      pend : (p : Standing) → LookPending t d ≡ look_of p → Says p (HasTerms u) → u ≡ t
      pend unused f g = absurd g
      pend (pending v e) f g = let x : t ≡ v = cc in g ∙ sym x
      pend (decided v e o m) f g = let no : ⊥ = cc in absurd no

    -- a pending place of the participant's own was opened by it
    pub saw_own_pending : (t : Terms) (d : ℕ) → look ≡ LookPending t d → has_role b k.owner → knows b (about k Opened)
    saw_own_pending t d e role = h.own role Opened tt (at h.standing (sym e ∙ h.look_is)) where
      at : (p : Standing) → LookPending t d ≡ look_of p → Says p Opened
      at unused f = let no : ⊥ = cc in absurd no
      at (pending u e) f = tt
      at (decided u e z m) f = let no : ⊥ = cc in absurd no

    pub saw_own : (t : Terms) (o : Outcome) → look ≡ LookDecided t o → has_role b k.owner → knows b (about k Opened)
    saw_own t o e role = h.own role Opened tt (dec h.standing (sym e ∙ h.look_is)) where
      dec : (p : Standing) → LookDecided t o ≡ look_of p → Says p Opened
      dec unused f = let no : ⊥ = cc in absurd no
      dec (pending u e) f = let no : ⊥ = cc in absurd no
      dec (decided u e z m) f = tt

    pub saw_decided : (t : Terms) (o : Outcome) → look ≡ LookDecided t o → knows c (about k (Decided o))
    saw_decided t o e = dec h.standing h.learns (sym e ∙ h.look_is) where
      dec : (p : Standing) → Learns margin knows b k p c → LookDecided t o ≡ look_of p → knows c (about k (Decided o))
      dec unused l f = let no : ⊥ = cc in absurd no
      dec (pending u e) l f = let no : ⊥ = cc in absurd no
      dec (decided u e z m) l f = let x : o ≡ z = cc in l.shown (Decided o) x

    pub saw_decided_same : (t : Terms) (o : Outcome) → look ≡ LookDecided t o → (u : Terms) → knows b (about k (HasTerms u)) → u ≡ t
    saw_decided_same t o e u kn = dec h.standing (sym e ∙ h.look_is) (h.learns.agrees (HasTerms u) kn) where
      dec : (p : Standing) → LookDecided t o ≡ look_of p → Says p (HasTerms u) → u ≡ t
      dec unused f g = absurd g
      dec (pending v e) f g = let no : ⊥ = cc in absurd no
      dec (decided v e z m) f g = let x : t ≡ v = cc in g ∙ sym x

    -- a look that books what it shows
    pub looked_booking : (book : Book) (id : List ℕ) (t : Terms) (z : Outcome) → settings c ≡ settings b → margin ≡ (settings b).margin → (has_role b book.who → has_role c book.who)
        → look ≡ LookDecided t z → LiesAt book k.owner id k.index
        → IsLawfulBoard settings knows has_role b book → IsLawfulBoard settings knows has_role c (with_events book (book.events ++ Booked k.owner id z ∷ []))
    looked_booking book id t z same_settings fits role is lies was = looked book (book.events ++ Booked k.owner id z ∷ []) same_settings fits role
        (same_after book.who book.events (Booked k.owner id z) refl refl refl)
        (booking_news c book k.owner id k.index z lies (saw_decided t z is))
        (λ from name o e. still_booked from name book.events (Booked k.owner id z) o e)
        was

  -- a decision of the place of a transfer of the books, with nothing booked
  module _ (margin : ℕ) (stood : B → Place → Outcome → Type 0) (b c : B) (from index : ℕ) (wish : Wish) (at : ℕ) (found : Option Outcome)
      (h : Decides margin knows stood b (place_at from index) wish at found c) where
    ended : (p : Standing) (o : Outcome) → Learns margin knows b (place_at from index) p c → AnswersWish margin (stood b (place_at from index)) wish at p found → found ≡ Some o
        → knows c (about (place_at from index) (Decided o)) × Says p (Decided o)
    ended unused o l a e = absurd a
    ended (pending t d) o l a e = let f = a.0 in let no : ⊥ = cc in absurd no
    ended (decided t d z m) o l a e = let f = a.0 in let x : o ≡ z = cc in (l.shown (Decided o) x, x)

    unended : (p : Standing) (o : Outcome) → AnswersWish margin (stood b (place_at from index)) wish at p found → found ≡ None → Says p (Decided o) → ⊥
    unended unused o a e says = says
    unended (pending t d) o a e says = says
    unended (decided t d z m) o a e says = let f = a.0 in let no : ⊥ = cc in no

    pub decided_here : (book : Book) (id : List ℕ) (o : Outcome) → settings c ≡ settings b → margin ≡ (settings b).margin → (has_role b book.who → has_role c book.who)
        → LiesAt book from id index → booked from id book.events ≡ None → found ≡ Some o
        → IsLawfulBoard settings knows has_role b book → IsLawfulBoard settings knows has_role c (with_events book (book.events ++ Booked from id o ∷ []))
    decided_here book id o same_settings fits role lies none e was =
        let lain = lying settings knows has_role b book from id index was lies in
        let end = ended h.standing o h.learns h.answers e in
        moved settings knows has_role b c book (book.events ++ Booked from id o ∷ []) same_settings (learnt_truly settings knows has_role margin b c (place_at from index) h.standing h.learns book fits was) role h.learns.kept
        (learnt_own settings knows has_role margin b c (place_at from index) h.standing h.learns book.who (λ own says. lain.known.opened))
        (same_after book.who book.events (Booked from id o) refl refl refl)
        (booking_news c book from id index o lies end.0)
        (λ j t z to an kt kd. ⊎_elim
        (λ old. still_booked j.owner t.id book.events (Booked from id o) z (was.answered j t z to an old.0 old.1))
        (λ new.
        let name : id ≡ t.id = sym lain.id_is ∙ ap (λ (u : Terms). u.id) (same_terms h.standing lain.terms t (h.learns.agrees (HasTerms lain.terms) lain.known.terms) new.1) in
        let owner : from ≡ j.owner = ap (λ (q : Place). q.owner) (sym new.0) in
        let outcome : o ≡ z = same_decided h.standing o z end.1 new.2 in
        let first : booked from id (book.events ++ Booked from id o ∷ []) ≡ Some z = newly_booked from id book.events o none ∙ ap (λ (x : Outcome). Some x) outcome in
        subst (λ (x : ℕ). booked x t.id (book.events ++ Booked from id o ∷ []) ≡ Some z) owner
        (subst (λ (x : List ℕ). booked from x (book.events ++ Booked from id o ∷ []) ≡ Some z) name first))
        (learnt_answer settings knows has_role margin b c (place_at from index) h.standing h.learns j t z kt kd))
        was

    -- it stays pending
    pub undecided : (book : Book) (id : List ℕ) → settings c ≡ settings b → margin ≡ (settings b).margin → (has_role b book.who → has_role c book.who)
        → LiesAt book from id index → found ≡ None
        → IsLawfulBoard settings knows has_role b book → IsLawfulBoard settings knows has_role c book
    undecided book id same_settings fits role lies e was =
        let lain = lying settings knows has_role b book from id index was lies in
        moved settings knows has_role b c book book.events same_settings (learnt_truly settings knows has_role margin b c (place_at from index) h.standing h.learns book fits was) role h.learns.kept
        (learnt_own settings knows has_role margin b c (place_at from index) h.standing h.learns book.who (λ own says. lain.known.opened))
        (same_transfers book.who book.events)
        (λ other name o f. inl f)
        (λ j t z to an kt kd. ⊎_elim
        (λ old. was.answered j t z to an old.0 old.1)
        (λ new. absurd (unended h.standing z h.answers e new.2))
        (learnt_answer settings knows has_role margin b c (place_at from index) h.standing h.learns j t z kt kd))
        was
