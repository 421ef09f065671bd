-- What a decision of a place keeps of what the books have to do with the board.
use Rattle.std.proofs.Common.{◌≡◌, ℕ, Bool, cond, List, ◌++◌, append-nil, inl, ⊎_elim, refl, sym, ap, ◌∙◌, subst, Option, Some, None, is_none}
use Rattle.std.specs.Prelude.{slice_get, Result, ◌↔◌}
use Rattle.std.specs.declared.alloc.AllocError.{AllocError}
use Rattle.inst_base.specs.declared.fault.Fault.{Fault}
use Rattle.inst_settings.specs.Settings.{HubSettings}
use Rattle.inst_command.specs.declared.ask.Ask.{Ask}
use Rattle.inst_command.specs.declared.outcome.Outcome.{Outcome}
use Rattle.inst_command.specs.declared.reply.Reply.{Reply}
use Rattle.inst_command.specs.declared.place.Place.{Place}
use Rattle.inst_board.specs.declared.wish.Wish.{Wish}
use Rattle.inst_board.specs.declared.wish.Wish.TheVariants.{Expire}
use Rattle.inst_board.specs.declared.about.Fact.{Fact}
use Rattle.inst_journal.specs.declared.event.Event.{Event}
use Rattle.inst_journal.specs.declared.event.Event.TheVariants.{Funded, Defunded, Taken, Forwarded, Booked, Fetched, Opened as OpenedEvent}
use Rattle.inst_journal.specs.Booked.{booked}
use Rattle.inst_journal.specs.Opened.{live_taken}
use Rattle.inst_journal.specs.Reply.{kept_event, kept_events}
use Rattle.inst_slot.specs.Book.{Book, place_at}
use Rattle.inst_slot.specs.LawfulBoard.{IsTakenAt, LiesAt, IsLawfulBoard}
use Rattle.inst_slot.specs.Asking.{request, Finds, OnlyLooks, handle_ask, book_after, Settles}
use Rattle.inst_slot.specs.Telling.{booking, with_event, taken_id, taken_by, if_unbooked, unbooked_at, ExpiresFor}
use Rattle.inst_slot.proofs.BoardStaysLawful.{with_events}
use Rattle.inst_slot.proofs.EffectOfLookAndDecision.{looked_on, decided_here, undecided}
use Rattle.inst_slot.proofs.SlotMayDecideWhatIsAsked.{asked}

-- the own transfer at an index, with nothing booked
pub record IsUnbooked (book : Book) (index : ℕ) (id : List ℕ) : Type 0 where
  pub at : IsTakenAt book id index
  pub none : booked book.who id book.events ≡ None

taken_step : (e : Event) (id : List ℕ) → taken_id e ≡ Some id → (to : ℕ) × (cents : ℕ) × (stamp : ℕ) × (e ≡ Taken id to cents stamp)
taken_step (Taken other to cents stamp) id h = let same : other ≡ id = cc in (to, cents, stamp, ap (λ (i : List ℕ). Taken i to cents stamp) same)
taken_step (Funded funding) id h = let no : ⊥ = cc in absurd no
taken_step (Defunded funding) id h = let no : ⊥ = cc in absurd no
taken_step (Forwarded from other cents d) id h = let no : ⊥ = cc in absurd no
taken_step (Booked from other o) id h = let no : ⊥ = cc in absurd no
taken_step (Fetched n) id h = let no : ⊥ = cc in absurd no
taken_step OpenedEvent id h = let no : ⊥ = cc in absurd no

taken_from : (book : Book) (index : ℕ) (o : Option Event) (id : List ℕ) → slice_get (live_taken book.who book.events) index ≡ o → taken_by o ≡ Some id → IsTakenAt book id index
taken_from book index None id there h = let no : ⊥ = cc in absurd no
taken_from book index (Some e) id there h =
    let t = taken_step e id h in
    record { to = t.0; cents = t.1; stamp = t.2; there = there ∙ ap (λ (x : Event). Some x) t.3 }

unbooked_step : (book : Book) (named : Option (List ℕ)) (id : List ℕ) → if_unbooked book named ≡ Some id → (named ≡ Some id) × (booked book.who id book.events ≡ None)
unbooked_step book None id h = let no : ⊥ = cc in absurd no
unbooked_step book (Some other) id h = go (booked book.who other book.events) refl h
  where
    go : (o : Option Outcome) → booked book.who other book.events ≡ o → cond (is_none o) (Some other) None ≡ Some id → (Some other ≡ Some id) × (booked book.who id book.events ≡ None)
    go None none e = let same : other ≡ id = cc in (e, ap (λ (i : List ℕ). booked book.who i book.events) (sym same) ∙ none)
    go (Some o) none e = let no : ⊥ = cc in absurd no

pub unbooked_is : (book : Book) (index : ℕ) (id : List ℕ) → unbooked_at book index ≡ Some id → IsUnbooked book index id
unbooked_is book index id h =
    let o : Option Event = slice_get (live_taken book.who book.events) index in
    let s = unbooked_step book (taken_by o) id h in
    record { at = taken_from book index o id refl s.0; none = s.1 }

module _ {B : Type 0} (settings : B → HubSettings) (knows : B → Fact → Type 0) (has_role : B → ℕ → Type 0) (margin : ℕ) (stood : B → Place → Outcome → Type 0) (stays : B → B → Type 0)
    (stays_settings : (a b : B) → stays a b → settings b ≡ settings a) (stays_roles : (a b : B) (p : ℕ) → stays a b → has_role a p ↔ has_role b p)
    (b c : B) (same_holder : stays b c) (book : Book) (was : IsLawfulBoard settings knows has_role b book) (fits : margin ≡ (settings b).margin) where
  -- what is found at the place of a transfer of the books, with nothing booked, is booked
  found_keeps : (k : Place) (wish : Wish) (at : ℕ) (id : List ℕ) (found : Option Outcome) → LiesAt book k.owner id k.index → booked k.owner id book.events ≡ None
      → Finds margin knows has_role stood stays b k wish at found c → IsLawfulBoard settings knows has_role c (with_event book (booking k.owner id found))
  found_keeps k wish at id found lies none f =
      let m = f.between in
      let seen = looked_on settings knows has_role margin stood b m k f.look f.looks book (stays_settings b m f.same_holder) fits (λ r. (stays_roles b m book.who f.same_holder).0 r) was in
      let same : settings c ≡ settings m = stays_settings b c same_holder ∙ sym (stays_settings b m f.same_holder) in
      let role = λ (r : has_role m book.who). (stays_roles b c book.who same_holder).0 ((stays_roles b m book.who f.same_holder).1 r) in
      go found refl f seen same (fits ∙ ap (λ (s : HubSettings). s.margin) (sym (stays_settings b m f.same_holder))) role
    where
      go : (o : Option Outcome) → found ≡ o → (f : Finds margin knows has_role stood stays b k wish at found c) → IsLawfulBoard settings knows has_role f.between book
          → settings c ≡ settings f.between → margin ≡ (settings f.between).margin → (has_role f.between book.who → has_role c book.who) → IsLawfulBoard settings knows has_role c (with_event book (booking k.owner id o))
      go None is f seen same margins role = undecided settings knows has_role margin stood f.between c k.owner k.index wish at found f.decides book id same margins role lies is seen
      go (Some o) is f seen same margins role = decided_here settings knows has_role margin stood f.between c k.owner k.index wish at found f.decides book id o same margins role lies none is seen

  only_looked : (k : Place) (wish : Wish) (at : ℕ) → OnlyLooks margin knows has_role stood b k wish at c → IsLawfulBoard settings knows has_role c book
  only_looked k wish at l = looked_on settings knows has_role margin stood b c k l.look l.looks book (stays_settings b c same_holder) fits (λ r. (stays_roles b c book.who same_holder).0 r) was

  kept_one : (o : Option Event) (K : List Event) → K ≡ kept_event o → with_events book (book.events ++ K) ≡ with_event book o
  kept_one None K is = ap (λ (l : List Event). with_events book l) (ap (λ (l : List Event). book.events ++ l) is ∙ append-nil book.events)
  kept_one (Some e) K is = ap (λ (l : List Event). with_events book (book.events ++ l)) is

  pub settles_keep : (ask : Ask) (k : Place × Wish) (result : Result Reply Fault) (new : Book) → request book ask.command ≡ Some k
      → Settles margin knows has_role stood stays b book ask k.0 k.1 result c new → IsLawfulBoard settings knows has_role c new
  settles_keep ask k result new e s = ⊎_elim
      (λ answered.
      let a = asked settings knows has_role b book ask.command k was e in
      let found = answered.0 in
      let after : book_after book ask found ≡ with_event book (booking k.0.owner a.id found) = kept_one (booking k.0.owner a.id found) (kept_events (handle_ask book ask found)) (a.kept ask.at found) in
      subst (λ (x : Book). IsLawfulBoard settings knows has_role c x) (sym (answered.2 ∙ after)) (found_keeps k.0 k.1 ask.at a.id found a.lies a.none answered.3))
      (λ refused. subst (λ (x : Book). IsLawfulBoard settings knows has_role c x) (sym refused.1) (only_looked k.0 k.1 ask.at refused.2))
      s

  pub expires_keep : (index at : ℕ) (id : List ℕ) (result : Result Bool AllocError) (new : Book) → unbooked_at book index ≡ Some id
      → ExpiresFor margin knows has_role stood stays b book index at (Some id) result c new → IsLawfulBoard settings knows has_role c new
  expires_keep index at id result new e s = ⊎_elim
      (λ answered.
      let u = unbooked_is book index id e in
      subst (λ (x : Book). IsLawfulBoard settings knows has_role c x) (sym answered.2) (found_keeps (place_at book.who index) Expire at id answered.0 (inl (refl, u.at)) u.none answered.3))
      (λ refused. subst (λ (x : Book). IsLawfulBoard settings knows has_role c x) (sym refused.1) (only_looked (place_at book.who index) Expire at refused.2))
      s
