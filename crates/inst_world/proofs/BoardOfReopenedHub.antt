-- A hub whose slots opened again from the books: its board has the live transfers, pending, and nothing else.
use Rattle.std.proofs.Common.{◌≡◌, ◌≢◌, ℕ, zero, suc, ◌+◌, ◌<◌, ◌≤◌, List, [], ◌∷◌, ◌++◌, length, get_or, Option, Some, None, is_none, true, refl, sym, ap, subst, ◌∙◌, inl, inr, ⊎_elim, arith, length-append, ltb-true}
use Rattle.std.specs.Prelude.{slice_get, ◌↔◌}
use Rattle.std.proofs.lemmas.Bool.{cases_eq, lt-ltb}
use Rattle.std.proofs.lemmas.Option.{same_Some, slice_get-get_or}
use Rattle.inst_base.proofs.Lists.{snoc_cases}
use Rattle.inst_settings.specs.Settings.{HubSettings, participants, is_participant}
use Rattle.inst_command.specs.declared.outcome.Outcome.{Outcome}
use Rattle.inst_terms.specs.declared.terms.Terms.{Terms}
use Rattle.inst_command.specs.declared.place.Place.{Place}
use Rattle.inst_board.specs.declared.about.About.{About}
use Rattle.inst_board.specs.declared.about.Fact.{Fact}
use Rattle.inst_board.specs.declared.plain.Kept.TheVariants.{Unused}
use Rattle.inst_board.specs.Standing.{Standing, unused, pending, Says, about}
use Rattle.inst_board.specs.Plain.{Contents, kept_at, standing_at, plain_knows}
use Rattle.inst_board.specs.Laws.{SayTheSame}
use Rattle.inst_journal.specs.declared.event.Event.{Event}
use Rattle.inst_journal.specs.declared.event.Event.TheVariants.{Funded, Defunded, Taken, Forwarded, Booked, Fetched, Opened}
use Rattle.inst_journal.specs.Booked.{booked}
use Rattle.inst_journal.specs.History.{History}
use Rattle.inst_journal.specs.Opened.{live_taken}
use Rattle.inst_model.specs.Opening.{BooksCanOpen}
use Rattle.inst_model.specs.Opening.Opening.{FromBooks}
use Rattle.inst_model.specs.Transfer.{Transfer, transfers, at_place, deadline}
use Rattle.inst_model.specs.Hub.{outcome}
use Rattle.inst_model.proofs.TextsTestsAndFirstThings.{Each_at}
use Rattle.inst_model.proofs.HistoriesBeginSoundAndClosed.{begins_carried, beginning_sound}
use Rattle.inst_model.proofs.Events.{taken_event}
use Rattle.inst_model.proofs.Strangers.{of_a_participant}
use Rattle.inst_model.proofs.Transfers.{as_transfer, place_there, place_live, each_to_participant}
use Rattle.inst_slot.specs.Book.{Book, place_at}
use Rattle.inst_slot.specs.LawfulBoard.{IsLawfulBoard, KeepsOthers}
use Rattle.inst_slot.specs.Opening.{opened_again, MayOpenAgain, IsOfTakenSubmission, OpensPlaces}
use Rattle.inst_slot.proofs.SlotOpensAgain.{may_open_first, others_may_open}
use Rattle.inst_world.specs.HasRun.{World, world_settings, StandsWith, StandsFor, IsBoardOf, terms_of}
use Rattle.inst_world.specs.NextOpening.{kept_by, books_of}
use Rattle.inst_world.specs.inner.NextOpening.{books_again, IsOpenedBelow, AreOpenedAgain, IsCarryingWorld}
use Rattle.inst_world.proofs.CarriedTransfersFindPlaces.{below as less}
use Rattle.inst_world.proofs.PlaceOfKnownTransfer.{same_for}
use Rattle.inst_world.proofs.FirstOpening.{nothing_known}
use Rattle.inst_world.proofs.PlacesOfLiveTransfers.{terms_in, at_taken}

-- the book that stands at this place of the list
pub book_at : (journals : List History) (i p : ℕ) (journal : History) → i < length journals → i ≡ p → journal ≡ get_or journals i journal → books_of journals p ≡ journal.events
book_at journals i p journal below same is =
    ap kept_by (ap (slice_get journals) (sym same) ∙ slice_get-get_or journals i journal below ∙ ap (λ (x : History). Some x) (sym is))

module _ (s : HubSettings) (J : ℕ → List Event) where
  pub none_opened : (b : Contents) → b.settings ≡ s → ((place : Place) → kept_at b place ≡ Unused) → AreOpenedAgain s J 0 (record { books = []; board = b })
  none_opened b same empty = record {
    settings_are = same;
    books_are = refl;
    known = λ f. (λ kn. absurd (nothing_known b empty f kn), λ x. absurd (omega (arith, x.below)));
    lawful = λ p below. absurd (omega (arith, below));
    next = λ p from. subst (λ (t : HubSettings). MayOpenAgain (λ (d : Contents). d.settings) plain_knows (λ d q. Unit {0}) b t p) same
        (may_open_first (λ (d : Contents). d.settings) plain_knows (λ d q. Unit {0}) b p tt (nothing_known b empty));
  }

  -- the books of one participant more were opened
  pub next_opened : (n : ℕ) (books pushed : List Book) (b c : Contents) (slot : Book) → AreOpenedAgain s J n (record { books = books; board = b }) → pushed ≡ books ++ slot ∷ [] → slot ≡ opened_again s n (J n)
      → OpensPlaces plain_knows s n (live_taken n slot.events) b c → IsLawfulBoard (λ (d : Contents). d.settings) plain_knows (λ d q. Unit {0}) c slot
      → KeepsOthers (λ (d : Contents). d.settings) plain_knows (λ d q. Unit {0}) b n c → c.settings ≡ b.settings
      → AreOpenedAgain s J (n + 1) (record { books = pushed; board = c })
  next_opened n books pushed b c slot was push is opens lawful others stays = record {
    settings_are = stays ∙ was.settings_are;
    books_are = push ∙ ap (λ (xs : List Book). xs ++ slot ∷ []) was.books_are ∙ ap (λ (x : Book). books_again s J n ++ x ∷ []) is ∙ ap (books_again s J) more;
    known = λ f. (to f, back f);
    lawful = λ p below. elim (cases_eq p n) [
      | inl same ↦ subst (λ (q : ℕ). IsLawfulBoard (λ (d : Contents). d.settings) plain_knows (λ d r. Unit {0}) c (opened_again s q (J q))) (sym same) own
      | inr other ↦ others (opened_again s p (J p)) other (was.lawful p (less p n below other))
    ];
    next = λ p from. others_may_open (λ (d : Contents). d.settings) plain_knows (λ d q. Unit {0}) (λ (x y : Contents). y.settings ≡ x.settings) (λ x y h. h) (λ x y q h. (λ r. r, λ r. r)) b c s n p
        (live_taken n (J n ++ Opened ∷ [])) stays (after p from) own.truly opened (was.next p (omega (arith, from)));
  }
    where
      more : suc n ≡ n + 1
      more = omega arith

      own : IsLawfulBoard (λ (d : Contents). d.settings) plain_knows (λ d q. Unit {0}) c (opened_again s n (J n))
      own = subst (λ (x : Book). IsLawfulBoard (λ (d : Contents). d.settings) plain_knows (λ d q. Unit {0}) c x) is lawful

      opened : OpensPlaces plain_knows s n (live_taken n (J n ++ Opened ∷ [])) b c
      opened = subst (λ (x : Book). OpensPlaces plain_knows s n (live_taken n x.events) b c) is opens

      after : (p : ℕ) → n + 1 ≤ p → p ≢ n
      after p from same = omega (arith, from, same)

      to : (f : Fact) → plain_knows c f → IsOpenedBelow s J (n + 1) f
      to f kn = elim ((opened.known f).0 kn) [
        | inl old ↦ let x = (was.known f).0 old in record { owner = x.owner; below = omega (arith, x.below); opening = x.opening }
        | inr new ↦ record { owner = n; below = omega arith; opening = new }
      ]

      back : (f : Fact) → IsOpenedBelow s J (n + 1) f → plain_knows c f
      back f x = elim (cases_eq x.owner n) [
        | inl same ↦ (opened.known f).1 (inr (subst (λ (q : ℕ). IsOfTakenSubmission s q (live_taken q (J q ++ Opened ∷ [])) f) same x.opening))
        | inr other ↦ (opened.known f).1 (inl ((was.known f).1 (record { owner = x.owner; below = less x.owner n x.below other; opening = x.opening })))
      ]

  pub again_length : (n : ℕ) → length (books_again s J n) ≡ n
  again_length zero = refl
  again_length (suc n) = length-append (books_again s J n) (opened_again s n (J n) ∷ []) ∙ ap (λ (k : ℕ). k + 1) (again_length n) ∙ omega arith

  pub again_at : (n p : ℕ) (book : Book) → slice_get (books_again s J n) p ≡ Some book → (p < n) × (book ≡ opened_again s p (J p))
  again_at zero p book e = let no : ⊥ = cc in absurd no
  again_at (suc n) p book e = ⊎_elim
      (λ before. let r = again_at n p book before in (omega (arith, r.0), r.1))
      (λ last. let same : p ≡ n = last.0 ∙ again_length n in (omega (arith, same), sym last.1 ∙ ap (λ (q : ℕ). opened_again s q (J q)) (sym same)))
      (snoc_cases (books_again s J n) (opened_again s n (J n)) book p e)

-- the event that takes this
takes_this : (o : Option Event) (x : Transfer) → terms_in o ≡ Some x → o ≡ Some (taken_event x)
takes_this None x e = let no : ⊥ = cc in absurd no
takes_this (Some (Taken id to cents stamp)) x e =
    ap (λ (y : Transfer). Some (taken_event y)) (same_Some (as_transfer id to cents stamp) x e)
takes_this (Some (Funded funding)) x e = let no : ⊥ = cc in absurd no
takes_this (Some (Defunded funding)) x e = let no : ⊥ = cc in absurd no
takes_this (Some (Forwarded from id cents d)) x e = let no : ⊥ = cc in absurd no
takes_this (Some (Booked from id o)) x e = let no : ⊥ = cc in absurd no
takes_this (Some (Fetched count)) x e = let no : ⊥ = cc in absurd no
takes_this (Some Opened) x e = let no : ⊥ = cc in absurd no

none_booked : (o : Option Outcome) → is_none o ≡ true → o ≡ None
none_booked None e = refl
none_booked (Some x) e = let no : ⊥ = cc in absurd no

-- what an opened place stands for
stands_pending : (s : HubSettings) (outcomes : List ℕ → Option Outcome) (x : Transfer) (q : Standing) → outcomes x.id ≡ None → SayTheSame q (pending (terms_of x) (deadline s x)) → StandsFor s outcomes (Some x) q
stands_pending s outcomes x q none says =
    same_for s outcomes (Some x) (pending (terms_of x) (deadline s x)) q says
    (subst (λ (o : Option Outcome). StandsWith (terms_of x) (deadline s x) o (pending (terms_of x) (deadline s x))) (sym none) refl)

-- the transfer of an opened place
pub record IsOf (s : HubSettings) (J : ℕ → List Event) (p index : ℕ) (a : About) : Type 0 where
  pub transfer : Transfer
  pub there : at_place p (J p ++ Opened ∷ []) index ≡ Some transfer
  pub says : Says (pending (terms_of transfer) (deadline s transfer)) a

module _ (s : HubSettings) (J : ℕ → List Event) where
  opened_is : (n p index : ℕ) (a : About) → IsOpenedBelow s J n (about (place_at p index) a) → IsOf s J p index a
  opened_is n p index a x =
      let o = x.opening in
      let owner : x.owner ≡ p = sym (ap (λ (k : Place). k.owner) o.place_is) in
      let same_index : o.index ≡ index = sym (ap (λ (k : Place). k.index) o.place_is) in
      let event : Event = Taken o.id o.to o.cents o.stamp in
      let here : slice_get (live_taken p (J p ++ Opened ∷ [])) o.index ≡ Some event = subst (λ (q : ℕ). slice_get (live_taken q (J q ++ Opened ∷ [])) o.index ≡ Some event) owner o.there in
      let at : slice_get (live_taken p (J p ++ Opened ∷ [])) index ≡ Some event = subst (λ (i : ℕ). slice_get (live_taken p (J p ++ Opened ∷ [])) i ≡ Some event) same_index here in
      record { transfer = as_transfer o.id o.to o.cents o.stamp; there = at_taken p (J p ++ Opened ∷ []) index ∙ ap terms_in at; says = o.says }

  is_opened : (n p index : ℕ) (x : Transfer) (a : About) → p < n → at_place p (J p ++ Opened ∷ []) index ≡ Some x → Says (pending (terms_of x) (deadline s x)) a → IsOpenedBelow s J n (about (place_at p index) a)
  is_opened n p index x a below there says = record {
    owner = p;
    below = below;
    opening = record {
      index = index;
      id = x.id;
      to = x.to;
      cents = x.cents;
      stamp = x.stamp;
      there = takes_this (slice_get (live_taken p (J p ++ Opened ∷ [])) index) x (sym (at_taken p (J p ++ Opened ∷ []) index) ∙ there);
      place_is = refl;
      says = says;
    };
  }

  module _ (can : BooksCanOpen s J) where
    pub begins_undecided : (p index : ℕ) (x : Transfer) → at_place p (J p ++ Opened ∷ []) index ≡ Some x → outcome s (FromBooks J) [] p x.id ≡ None
    begins_undecided p index x there =
        none_booked (booked p x.id (J p ++ Opened ∷ []))
        (sym (ap (λ (C : List Event). is_none (booked p x.id C)) (begins_carried (FromBooks J) p)) ∙ place_live p (J p ++ Opened ∷ []) index x there)

    begun_at : (board : Contents) (p index : ℕ) (a : About) (X : Option Transfer) → at_place p (J p ++ Opened ∷ []) index ≡ X → StandsFor s (outcome s (FromBooks J) [] p) X (standing_at board (place_at p index))
        → Says (standing_at board (place_at p index)) a ↔ IsOpenedBelow s J (participants s) (about (place_at p index) a)
    begun_at board p index a None none stands = (
      λ says. absurd (subst (λ (q : Standing). Says q a) stands says),
      λ x. let o = opened_is (participants s) p index a x in let e : None ≡ Some o.transfer = sym none ∙ o.there in let no : ⊥ = cc in absurd no,
    )
    begun_at board p index a (Some x) some stands =
        let number : is_participant s p ≡ true = of_a_participant s (FromBooks J) can [] tt p index x some in
        let is : standing_at board (place_at p index) ≡ pending (terms_of x) (deadline s x) =
        subst (λ (o : Option Outcome). StandsWith (terms_of x) (deadline s x) o (standing_at board (place_at p index))) (begins_undecided p index x some) stands in (
          λ says. is_opened (participants s) p index x a (ltb-true p (participants s) number) some (subst (λ (q : Standing). Says q a) is says),
          λ y.
              let o = opened_is (participants s) p index a y in
              subst (λ (q : Standing). Says q a) (sym is) (subst (λ (z : Transfer). Says (pending (terms_of z) (deadline s z)) a) (same_Some o.transfer x (sym o.there ∙ some)) o.says),
        )

    -- a board that stands for the hub as it begins has the live transfers, pending, and nothing else
    pub begun_known : (board : Contents) → IsBoardOf s (FromBooks J) [] board → (f : Fact) → plain_knows board f ↔ IsOpenedBelow s J (participants s) f
    begun_known board is f = begun_at board f.place.owner f.place.index f.about (at_place f.place.owner (J f.place.owner ++ Opened ∷ []) f.place.index) refl (is f.place.owner f.place.index)

    module _ (world : World) (opened : AreOpenedAgain s J (participants s) world) where
      stands_at : (p index : ℕ) (X : Option Transfer) → at_place p (J p ++ Opened ∷ []) index ≡ X → StandsFor s (outcome s (FromBooks J) [] p) X (standing_at world.board (place_at p index))
      stands_at p index None none =
          same_for s (outcome s (FromBooks J) [] p) None unused (standing_at world.board (place_at p index))
          (λ a. (λ says. let o = opened_is (participants s) p index a ((opened.known (about (place_at p index) a)).0 says) in let e : None ≡ Some o.transfer = sym none ∙ o.there in let no : ⊥ = cc in absurd no, λ says. absurd says))
          refl
      stands_at p index (Some x) some =
          let number : is_participant s p ≡ true = of_a_participant s (FromBooks J) can [] tt p index x some in
          stands_pending s (outcome s (FromBooks J) [] p) x (standing_at world.board (place_at p index)) (begins_undecided p index x some)
          (λ a. (
            λ says.
                let o = opened_is (participants s) p index a ((opened.known (about (place_at p index) a)).0 says) in
                subst (λ (y : Transfer). Says (pending (terms_of y) (deadline s y)) a) (same_Some o.transfer x (sym o.there ∙ some)) o.says,
            λ says. (opened.known (about (place_at p index) a)).1 (is_opened (participants s) p index x a (ltb-true p (participants s) number) some says),
          ))

      pub board_opened : IsBoardOf s (FromBooks J) [] world.board
      board_opened p index = stands_at p index (at_place p (J p ++ Opened ∷ []) index) refl

      addressed_at : (k : Place) (t : Terms) (d : ℕ) (X : Option Transfer) → at_place k.owner (J k.owner ++ Opened ∷ []) k.index ≡ X → StandsFor s (outcome s (FromBooks J) [] k.owner) X (standing_at world.board k)
          → standing_at world.board k ≡ pending t d → is_participant s t.to ≡ true
      addressed_at k t d None none stands is = let e : unused ≡ pending t d = sym stands ∙ is in let no : ⊥ = cc in absurd no
      addressed_at k t d (Some x) some stands is =
          let pends : standing_at world.board k ≡ pending (terms_of x) (deadline s x) =
          subst (λ (o : Option Outcome). StandsWith (terms_of x) (deadline s x) o (standing_at world.board k)) (begins_undecided k.owner k.index x some) stands in
          let e : pending t d ≡ pending (terms_of x) (deadline s x) = sym is ∙ pends in
          let same : t ≡ terms_of x = cc in
          let taken = place_there k.owner (J k.owner ++ Opened ∷ []) k.index x some in
          let below : x.to < length s.codes =
          Each_at (λ (y : Transfer). y.to < length s.codes) (transfers (J k.owner ++ Opened ∷ [])) taken.0 x (each_to_participant s k.owner (J k.owner ++ Opened ∷ []) (beginning_sound s (FromBooks J) can k.owner)) taken.1 in
          ap (λ (u : Terms). is_participant s u.to) same ∙ lt-ltb x.to (participants s) below

      pub carrying : IsCarryingWorld world
      carrying =
          let t : HubSettings = world_settings world in
          record {
            one_each = ap length opened.books_are ∙ again_length s J (participants s) ∙ ap participants (sym opened.settings_are);
            member = λ p book there.
                let at = again_at s J (participants s) p book (ap (λ (xs : List Book). slice_get xs p) (sym opened.books_are) ∙ there) in
                record {
                  settings_are = ap (λ (x : Book). x.settings) at.1 ∙ sym opened.settings_are;
                  who_is = ap (λ (x : Book). x.who) at.1;
                  lawful = subst (λ (x : Book). IsLawfulBoard (λ (d : Contents). d.settings) plain_knows (λ d q. Unit {0}) world.board x) (sym at.1) (opened.lawful p at.0);
                };
            addressed = λ k u d is. ap (λ (v : HubSettings). is_participant v u.to) opened.settings_are
                ∙ addressed_at k u d (at_place k.owner (J k.owner ++ Opened ∷ []) k.index) refl (board_opened k.owner k.index) is;
          }
