-- An expiry, over a board that has the model's outcomes, does what the model says.
use Rattle.std.proofs.Common.{◌≡◌, ◌≢◌, ℕ, Bool, true, false, cond, ◌&&◌, ◌||◌, ◌==◌, List, [], ◌∷◌, Option, Some, None, is_none, is_some, Result, Ok, refl, sym, ap, subst, ◌∙◌, inl, inr, ◌⊎◌}
use Rattle.std.specs.Prelude.{slice_get}
use Rattle.std.proofs.lemmas.Bool.{cases_eq, cases_Bool, ne_eqb}
use Rattle.std.specs.declared.alloc.AllocError.{AllocError}
use Rattle.inst_settings.specs.Settings.{HubSettings, same_text}
use Rattle.inst_command.specs.Deciding.{expired}
use Rattle.inst_command.specs.declared.outcome.Outcome.{Outcome}
use Rattle.inst_command.specs.declared.step.Step.{Step}
use Rattle.inst_command.specs.declared.step.Step.TheVariants.{Expire}
use Rattle.inst_board.specs.declared.look.Look.{Look}
use Rattle.inst_command.specs.declared.place.Place.{Place}
use Rattle.inst_board.specs.Standing.{look_of}
use Rattle.inst_board.specs.declared.wish.Wish.TheVariants.{Expire as WishExpire}
use Rattle.inst_board.specs.Plain.{Contents, standing_at, plain_knows, plain_stood}
use Rattle.inst_journal.specs.declared.event.Event.{Event}
use Rattle.inst_journal.specs.declared.event.Event.TheVariants.{Funded, Defunded, Taken, Forwarded, Booked, Fetched, Opened}
use Rattle.inst_journal.specs.Booked.{booked, is_forwarded, or_else}
use Rattle.inst_journal.specs.Opened.{live_taken}
use Rattle.inst_model.specs.Opening.{Opening, IsOpening}
use Rattle.inst_model.specs.Interleaving.{IsInterleaving}
use Rattle.inst_model.specs.Transfer.{Transfer, transfer, at_place, deadline, is_named}
use Rattle.inst_model.specs.View.{Seen, news, tells}
use Rattle.inst_model.specs.Trace.{is_seen}
use Rattle.inst_model.specs.Wants.{taken_wants}
use Rattle.inst_model.specs.Hub.{outcome, history}
use Rattle.inst_model.proofs.TextsTestsAndFirstThings.{eqb_refl, same_text_refl, same_text-true, or_else_kept}
use Rattle.inst_model.proofs.Outcomes.{booked_outcome}
use Rattle.inst_model.proofs.AllHistoriesTogether.{together}
use Rattle.inst_model.proofs.Transfers.{place_found}
use Rattle.inst_slot.specs.Book.{Book, place_at}
use Rattle.inst_slot.specs.Asking.{Finds}
use Rattle.inst_slot.specs.Telling.{with_event, taken_by, if_unbooked, unbooked_at, booking, ExpiresFor, Expires}
use Rattle.inst_world.specs.HasRun.{StandsWith, StandsFor, terms_of, IsBoardOf, IsMember}
use Rattle.inst_world.proofs.PlaceOfKnownTransfer.{finds_settle, looked, wish_finds}
use Rattle.inst_world.proofs.PlacesOfLiveTransfers.{sees_this, if_own, at_taken, terms_in}
use Rattle.inst_world.proofs.SlotAgreesWithModel.{expiry_tells}
use Rattle.inst_world.proofs.BoardOutcomesAfterStep.{board_stays, board_settles}
use Rattle.inst_world.proofs.DeliveryAndResolutionFollowModel.{RanOrNot, takes_none, no_ask_expire, looked_still, added}
use Rattle.inst_journal.proofs.OneMoreElement.{or_else-none}

names_taken : (event : Option Event) → taken_by event ≡ elim (terms_in event) as (λ _. Option (List ℕ)) [ None ↦ None | Some x ↦ Some x.id ]
names_taken None = refl
names_taken (Some (Taken id to cents stamp)) = refl
names_taken (Some (Funded funding)) = refl
names_taken (Some (Defunded funding)) = refl
names_taken (Some (Forwarded from id cents d)) = refl
names_taken (Some (Booked from id o)) = refl
names_taken (Some (Fetched count)) = refl
names_taken (Some Opened) = refl

no_news : (from : ℕ) (id : List ℕ) (o : Option Outcome) (z : Outcome) → news from id o (Some z) ≡ []
no_news from id None z = refl
no_news from id (Some y) z = refl

either_nothing : {A : Type 0} (b : Bool) (x : List A) → x ≡ [] → cond b x [] ≡ []
either_nothing true x e = e
either_nothing false x e = refl

module _ (s : HubSettings) (O : Opening) (opening : IsOpening s O) (L : List Step) (steps : IsInterleaving s L) (b : Contents) (board : IsBoardOf s O L b) where
  module _ (q index at : ℕ) where
    -- only the transfer at the place is wanted to expire
    wants_nothing : (p : ℕ) (id : List ℕ) (X : Option Transfer) → (q ≡ p → is_named id (at_place p (history s O L p) index) ≡ false) → taken_wants s (history s O L) (Expire q index at) p id X ≡ None
    wants_nothing p id None unnamed = refl
    wants_nothing p id (Some x) unnamed = elim (cases_eq q p) [
      | inl same ↦ ap (λ (c : Bool). cond ((q == p) && c) (expired (deadline s x) at) None) (unnamed same) ∙ and_false (q == p) (expired (deadline s x) at)
      | inr other ↦ ap (λ (c : Bool). cond (c && is_named id (at_place p (history s O L p) index)) (expired (deadline s x) at) None) (ne_eqb q p other)
    ]
      where
        and_false : (c : Bool) (o : Option Outcome) → cond (c && false) o None ≡ None
        and_false true o = refl
        and_false false o = refl

    undecided_same : (p : ℕ) (id : List ℕ) → (q ≡ p → is_named id (at_place p (history s O L p) index) ≡ false) → outcome s O (Expire q index at ∷ L) p id ≡ outcome s O L p id
    undecided_same p id unnamed = ap (or_else (outcome s O L p id)) (wants_nothing p id (transfer id (history s O L p)) unnamed) ∙ or_else-none (outcome s O L p id)

    another_name : (x : Transfer) (id : List ℕ) → at_place q (history s O L q) index ≡ Some x → id ≢ x.id → is_named id (at_place q (history s O L q) index) ≡ false
    another_name x id there other = ap (is_named id) there ∙ go (cases_Bool (same_text x.id id))
      where
        go : (same_text x.id id ≡ true) ⊎ (same_text x.id id ≡ false) → same_text x.id id ≡ false
        go (inl same) = absurd (other (sym (same_text-true x.id id same)))
        go (inr differs) = differs

    -- what it wants for that
    wants_this : (x : Transfer) → at_place q (history s O L q) index ≡ Some x → outcome s O (Expire q index at ∷ L) q x.id ≡ or_else (outcome s O L q x.id) (expired (deadline s x) at)
    wants_this x there =
        let found : transfer x.id (history s O L q) ≡ Some x = place_found s q (history s O L q) index x ((together s O opening L steps).sound q) there in
        ap (λ (X : Option Transfer). or_else (outcome s O L q x.id) (taken_wants s (history s O L) (Expire q index at) q x.id X)) found
        ∙ ap (λ (X : Option Transfer). or_else (outcome s O L q x.id) (cond ((q == q) && is_named x.id X) (expired (deadline s x) at) None)) there
        ∙ ap (λ (c : Bool). or_else (outcome s O L q x.id) (cond (c && same_text x.id x.id) (expired (deadline s x) at) None)) (eqb_refl q)
        ∙ ap (λ (c : Bool). or_else (outcome s O L q x.id) (cond c (expired (deadline s x) at) None)) (same_text_refl x.id)

    module _ (book : Book) (member : IsMember s b q book) (events : book.events ≡ history s O L q) where
      -- nothing is seen, and nothing was done
      nothing_run : (c : Contents) (result : Result Bool AllocError) (new : Book) → tells (outcome s O (Expire q index at ∷ L)) q q (history s O L q) (at_place q (history s O L q) index) ≡ []
          → ((p n : ℕ) (x : Transfer) → at_place p (history s O L p) n ≡ Some x → outcome s O (Expire q index at ∷ L) p x.id ≡ outcome s O L p x.id)
          → (result ≡ Ok false) × (new ≡ book) × (c ≡ b) → RanOrNot s O (Expire q index at) L book result new c
      nothing_run c result new unseen same did =
          let seen = sees_this s O (Expire q index at) L q [] (if_own q (tells (outcome s O (Expire q index at ∷ L)) q q (history s O L q) (at_place q (history s O L q) index)) ∙ unseen) in
          inl (
            did.0 ∙ ap (λ (x : Bool). Ok x) (sym seen.is_seen_is),
            record {
              events = ap (λ (n : Book). n.events) did.1 ∙ events ∙ sym seen.history_is;
              board = subst (λ (d : Contents). IsBoardOf s O (Expire q index at ∷ L) d) (sym did.2)
                  (board_stays s O opening L steps (Expire q index at) b b board (takes_none s O (Expire q index at) L (no_ask_expire q index at)) (λ j a. (λ h. h, λ h. h)) same);
            },
          )

      some_run : (margin : ℕ) (stays : Contents → Contents → Type 0) (x : Transfer) → at_place q (history s O L q) index ≡ Some x → booked book.who x.id book.events ≡ None
          → (c : Contents) (result : Result Bool AllocError) (new : Book)
          → ExpiresFor margin plain_knows (λ _ _. Unit {0}) plain_stood stays b book index at (Some x.id) result c new → RanOrNot s O (Expire q index at) L book result new c
      some_run margin stays x there none c result new did =
          elim did [
            | inl done ↦
                let found : Option Outcome = done.0 in
                let finds : Finds margin plain_knows (λ _ _. Unit {0}) plain_stood stays b (place_at q index) WishExpire at found c =
                subst (λ (w : ℕ). Finds margin plain_knows (λ _ _. Unit {0}) plain_stood stays b (place_at w index) WishExpire at found c) member.who_is done.3 in
                let settled = finds_settle margin b c (place_at q index) WishExpire at found (outcome s O L q x.id) (terms_of x) (deadline s x) stays stands finds in
                let after_is : outcome s O (Expire q index at ∷ L) q x.id ≡ found = wants_this x there ∙ sym settled.found_is in
                let a = booked_so found after_is in
                inl (
                  done.1 ∙ ap (λ (y : Bool). Ok y) a.1,
                  record {
                    events = ap (λ (n : Book). n.events) done.2 ∙ a.0;
                    board = board_settles s O opening L steps (Expire q index at) b c board (takes_none s O (Expire q index at) L (no_ask_expire q index at)) q index x there
                        (subst (λ (o : Option Outcome). StandsWith (terms_of x) (deadline s x) o (standing_at c (place_at q index))) (sym after_is) settled.here) settled.elsewhere
                        (λ p id other. undecided_same p id (λ same. elim other [
                          | inl owner ↦ absurd (owner (sym same))
                          | inr name ↦ subst (λ (r : ℕ). is_named id (at_place r (history s O L r) index) ≡ false) same (another_name x id there name)
                        ]));
                  },
                )
            | inr refused ↦
                let k : Place = place_at book.who index in
                let look : Look = refused.2.look in
                let shown : look ≡ look_of (standing_at b (place_at q index)) =
                (looked margin b c k look refused.2.looks).0 ∙ ap (λ (w : ℕ). look_of (standing_at b (place_at w index))) member.who_is in
                let z = wish_finds margin WishExpire at (terms_of x) (deadline s x) (outcome s O L q x.id) (standing_at b (place_at q index)) look stands shown refused.2.books in
                let a = booked_so (Some z.0) (wants_this x there ∙ z.1) in
                inr (refused.0, refused.1, looked_still s O opening L steps b board margin c k look refused.2.looks, sym a.1)
          ]
        where
          stands : StandsWith (terms_of x) (deadline s x) (outcome s O L q x.id) (standing_at b (place_at q index))
          stands = subst (λ (X : Option Transfer). StandsFor s (outcome s O L q) X (standing_at b (place_at q index))) there (board q index)

          -- the outcome after the step is booked, and seen
          booked_so : (found : Option Outcome) → outcome s O (Expire q index at ∷ L) q x.id ≡ found
              → ((with_event book (booking book.who x.id found)).events ≡ history s O (Expire q index at ∷ L) q) × (is_some found ≡ is_seen s O L (Expire q index at) q)
          booked_so found after_is =
              let f : ℕ → List Event → List Seen = λ w E. cond ((w == w) || is_forwarded w x.id E) (news w x.id found (booked w x.id E)) [] in
              let seen = sees_this s O (Expire q index at) L q (f q (history s O L q))
              (if_own q (tells (outcome s O (Expire q index at ∷ L)) q q (history s O L q) (at_place q (history s O L q) index))
              ∙ ap (tells (outcome s O (Expire q index at ∷ L)) q q (history s O L q)) there
              ∙ ap (λ (o : Option Outcome). cond ((q == q) || is_forwarded q x.id (history s O L q)) (news q x.id o (booked q x.id (history s O L q))) []) after_is) in
              added s O opening L steps b board q book member events (Expire q index at) refl f seen (with_event book (booking book.who x.id found)) (is_some found)
              (expiry_tells s book x.id found (booked book.who x.id book.events) none)

      by_booked : (margin : ℕ) (stays : Contents → Contents → Type 0) (x : Transfer) → at_place q (history s O L q) index ≡ Some x → (o : Option Outcome) → booked book.who x.id book.events ≡ o
          → (c : Contents) (result : Result Bool AllocError) (new : Book)
          → ExpiresFor margin plain_knows (λ _ _. Unit {0}) plain_stood stays b book index at (cond (is_none o) (Some x.id) None) result c new → RanOrNot s O (Expire q index at) L book result new c
      by_booked margin stays x there None none c result new did = some_run margin stays x there none c result new did
      by_booked margin stays x there (Some z) some c result new did =
          let here : booked q x.id (history s O L q) ≡ Some z = ap (λ (E : List Event). booked q x.id E) (sym events) ∙ ap (λ (w : ℕ). booked w x.id book.events) (sym member.who_is) ∙ some in
          let ended : outcome s O L q x.id ≡ Some z = booked_outcome s O opening L q q x.id z here in
          let unseen : tells (outcome s O (Expire q index at ∷ L)) q q (history s O L q) (at_place q (history s O L q) index) ≡ [] =
          ap (tells (outcome s O (Expire q index at ∷ L)) q q (history s O L q)) there
          ∙ either_nothing ((q == q) || is_forwarded q x.id (history s O L q)) (news q x.id (outcome s O (Expire q index at ∷ L) q x.id) (booked q x.id (history s O L q)))
          (ap (news q x.id (outcome s O (Expire q index at ∷ L) q x.id)) here ∙ no_news q x.id (outcome s O (Expire q index at ∷ L) q x.id) z) in
          nothing_run c result new unseen (λ p n y is. same_or_ended p y.id (cases_eq q p) (cases_Bool (same_text x.id y.id)) ended) did
        where
          same_or_ended : (p : ℕ) (id : List ℕ) → (q ≡ p) ⊎ (q ≢ p) → (same_text x.id id ≡ true) ⊎ (same_text x.id id ≡ false) → outcome s O L q x.id ≡ Some z → outcome s O (Expire q index at ∷ L) p id ≡ outcome s O L p id
          same_or_ended p id (inr other) named ended = undecided_same p id (λ same. absurd (other same))
          same_or_ended p id (inl owner) (inr differs) ended = undecided_same p id (λ same. subst (λ (r : ℕ). is_named id (at_place r (history s O L r) index) ≡ false) same (ap (is_named id) there ∙ differs))
          same_or_ended p id (inl owner) (inl same) ended =
              let is : outcome s O L p id ≡ Some z = ap (λ (r : ℕ). outcome s O L r id) (sym owner) ∙ ap (λ (i : List ℕ). outcome s O L q i) (sym (same_text-true x.id id same)) ∙ ended in
              or_else_kept (outcome s O L p id) (taken_wants s (history s O L) (Expire q index at) p id (transfer id (history s O L p))) z is ∙ sym is

      by_place : (margin : ℕ) (stays : Contents → Contents → Type 0) (X : Option Transfer) → at_place q (history s O L q) index ≡ X
          → (c : Contents) (result : Result Bool AllocError) (new : Book)
          → ExpiresFor margin plain_knows (λ _ _. Unit {0}) plain_stood stays b book index at (if_unbooked book (elim X as (λ _. Option (List ℕ)) [ None ↦ None | Some x ↦ Some x.id ])) result c new
          → RanOrNot s O (Expire q index at) L book result new c
      by_place margin stays None nowhere c result new did =
          nothing_run c result new (ap (tells (outcome s O (Expire q index at ∷ L)) q q (history s O L q)) nowhere)
          (λ p n y is. undecided_same p y.id (λ same. subst (λ (r : ℕ). is_named y.id (at_place r (history s O L r) index) ≡ false) same (ap (is_named y.id) nowhere))) did
      by_place margin stays (Some x) there c result new did = by_booked margin stays x there (booked book.who x.id book.events) refl c result new did

      pub expires_run : (margin : ℕ) (stays : Contents → Contents → Type 0) (c : Contents) (result : Result Bool AllocError) (new : Book)
          → Expires margin plain_knows (λ _ _. Unit {0}) plain_stood stays b book index at result c new → RanOrNot s O (Expire q index at) L book result new c
      expires_run margin stays c result new did =
          let place_is : terms_in (slice_get (live_taken book.who book.events) index) ≡ at_place q (history s O L q) index =
          ap (λ (w : ℕ). terms_in (slice_get (live_taken w book.events) index)) member.who_is
          ∙ ap (λ (E : List Event). terms_in (slice_get (live_taken q E) index)) events ∙ sym (at_taken q (history s O L q) index) in
          let unbooked_is : unbooked_at book index ≡ if_unbooked book (elim (at_place q (history s O L q) index) as (λ _. Option (List ℕ)) [ None ↦ None | Some x ↦ Some x.id ]) =
          ap (if_unbooked book) (names_taken (slice_get (live_taken book.who book.events) index))
          ∙ ap (λ (X : Option Transfer). if_unbooked book (elim X as (λ _. Option (List ℕ)) [ None ↦ None | Some x ↦ Some x.id ])) place_is in
          by_place margin stays (at_place q (history s O L q) index) refl c result new
          (subst (λ (i : Option (List ℕ)). ExpiresFor margin plain_knows (λ _ _. Unit {0}) plain_stood stays b book index at i result c new) unbooked_is did)
