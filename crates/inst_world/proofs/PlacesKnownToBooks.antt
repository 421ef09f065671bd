-- What the books of a participant know of places, over a board that has the model's outcomes.
use Rattle.std.proofs.Common.{◌≡◌, ℕ, true, ◌==◌, List, Option, Some, None, is_some, refl, sym, ap, subst, ◌∙◌, inl, inr}
use Rattle.std.proofs.lemmas.Bool.{false≢true, cases_Bool}
use Rattle.inst_settings.specs.Settings.{HubSettings}
use Rattle.inst_command.specs.declared.outcome.Outcome.{Outcome}
use Rattle.inst_command.specs.declared.step.Step.{Step}
use Rattle.inst_terms.specs.declared.terms.Terms.{Terms}
use Rattle.inst_board.specs.declared.about.About.TheVariants.{Opened, HasTerms, Due}
use Rattle.inst_board.specs.Standing.{Standing, Says}
use Rattle.inst_board.specs.Plain.{Contents, standing_at, plain_knows}
use Rattle.inst_board.specs.Laws.{KnowsOpening}
use Rattle.inst_journal.specs.declared.event.Event.{Event}
use Rattle.inst_journal.specs.Booked.{is_forwarded}
use Rattle.inst_journal.specs.Opened.{is_live}
use Rattle.inst_model.specs.Opening.{Opening, IsOpening}
use Rattle.inst_model.specs.Interleaving.{IsInterleaving}
use Rattle.inst_model.specs.Transfer.{Transfer, at_place, deadline}
use Rattle.inst_model.specs.Hub.{outcome, history}
use Rattle.inst_model.proofs.TextsTestsAndFirstThings.{eqb_refl}
use Rattle.inst_model.proofs.Transfers.{place_live}
use Rattle.inst_model.proofs.AllHistoriesTogether.{together, live_together}
use Rattle.inst_slot.specs.Book.{Book, place_at, terms_to, arrived_at, is_at}
use Rattle.inst_slot.proofs.BoardStaysLawful.{ArrivedAt, arrival_at}
use Rattle.inst_slot.proofs.ResolutionFitsBooks.{arrival_forwarded}
use Rattle.inst_world.specs.HasRun.{StandsWith, StandsFor, terms_of, IsBoardOf, IsMember}
use Rattle.inst_world.proofs.PlacesOfLiveTransfers.{places_apart}
use Rattle.inst_slot.proofs.ForwardedTransfersHavePlaces.{is_adopted}

says_terms : (t u : Terms) (d : ℕ) (o : Option Outcome) (p : Standing) → StandsWith t d o p → Says p (HasTerms u) → u ≡ t
says_terms t u d None p is says = subst (λ (q : Standing). Says q (HasTerms u)) is says
says_terms t u d (Some z) p is says = subst (λ (q : Standing). Says q (HasTerms u)) is.1 says

says_due : (t : Terms) (d e : ℕ) (o : Option Outcome) (p : Standing) → StandsWith t d o p → Says p (Due e) → e ≡ d
says_due t d e None p is says = subst (λ (q : Standing). Says q (Due e)) is says
says_due t d e (Some z) p is says = subst (λ (q : Standing). Says q (Due e)) is.1 says

-- the transfer that lies at a place of which the opening is known
pub record LiesThere (s : HubSettings) (J : ℕ → List Event) (p index : ℕ) (t : Terms) (d : ℕ) : Type 0 where
  pub transfer : Transfer
  pub there : at_place p (J p) index ≡ Some transfer
  pub terms_are : t ≡ terms_of transfer
  pub deadline_is : d ≡ deadline s transfer

module _ (s : HubSettings) (O : Opening) (opening : IsOpening s O) (L : List Step) (steps : IsInterleaving s L) (b : Contents) (board : IsBoardOf s O L b) where
  lies_as : (p index : ℕ) (t : Terms) (d : ℕ) → KnowsOpening plain_knows b (place_at p index) t d → (X : Option Transfer) → at_place p (history s O L p) index ≡ X
      → StandsFor s (outcome s O L p) X (standing_at b (place_at p index)) → LiesThere s (history s O L) p index t d
  lies_as p index t d known None is stands = absurd (subst (λ (q : Standing). Says q Opened) stands known.opened)
  lies_as p index t d known (Some x) is stands = record {
    transfer = x;
    there = is;
    terms_are = says_terms (terms_of x) t (deadline s x) (outcome s O L p x.id) (standing_at b (place_at p index)) stands known.terms;
    deadline_is = says_due (terms_of x) (deadline s x) d (outcome s O L p x.id) (standing_at b (place_at p index)) stands known.due;
  }

  pub lies_there : (p index : ℕ) (t : Terms) (d : ℕ) → KnowsOpening plain_knows b (place_at p index) t d → LiesThere s (history s O L) p index t d
  lies_there p index t d known = lies_as p index t d known (at_place p (history s O L p) index) refl (board p index)

  module _ (q : ℕ) (book : Book) (member : IsMember s b q book) (events : book.events ≡ history s O L q) where
    -- the transfer that came from a place lies there
    pub came_from : (from : ℕ) (id : List ℕ) (index : ℕ) → arrived_at from id book.arrivals ≡ Some index → (x : Transfer) × (at_place from (history s O L from) index ≡ Some x) × (x.id ≡ id) × (x.to ≡ q)
    came_from from id index arrived =
        let a : ArrivedAt from id index book.arrivals = arrival_at from id index book.arrivals arrived in
        let t : Terms = terms_to book.who a.arrival.entry.cents a.arrival.entry.id in
        let known : KnowsOpening plain_knows b (place_at a.arrival.entry.from index) t a.arrival.entry.deadline = member.lawful.forwarded_known a.arrival index a.there a.index_is in
        let here : KnowsOpening plain_knows b (place_at from index) t a.arrival.entry.deadline = subst (λ (n : ℕ). KnowsOpening plain_knows b (place_at n index) t a.arrival.entry.deadline) a.from_is known in
        let lies = lies_there from index t a.arrival.entry.deadline here in (
          lies.transfer,
          lies.there,
          ap (λ (u : Terms). u.id) (sym lies.terms_are) ∙ a.id_is,
          ap (λ (u : Terms). u.to) (sym lies.terms_are) ∙ member.who_is,
        )

    pub came_forwarded : (from : ℕ) (id : List ℕ) (index : ℕ) → arrived_at from id book.arrivals ≡ Some index → is_forwarded from id book.events ≡ true
    came_forwarded from id index arrived =
        let a : ArrivedAt from id index book.arrivals = arrival_at from id index book.arrivals arrived in
        let f = (arrival_forwarded (λ (c : Contents). c.settings) plain_knows (λ c r. Unit {0}) b book a.arrival member.lawful a.there).0 in
        subst (λ (i : List ℕ). is_forwarded from i book.events ≡ true) a.id_is (subst (λ (n : ℕ). is_forwarded n a.arrival.entry.id book.events ≡ true) a.from_is f)

    -- what is live at its originator's and forwarded is live
    forwarded_live : (from index : ℕ) (x : Transfer) → at_place from (history s O L from) index ≡ Some x → is_forwarded from x.id book.events ≡ true → is_live from x.id book.events ≡ true
    forwarded_live from index x there forwarded =
        ap (is_live from x.id) events
        ∙ live_together s O opening L steps q from x.id (sym (ap (is_forwarded from x.id) events) ∙ forwarded)
        ∙ place_live from (history s O L from) index x there

    -- a transfer that lies at a place was forwarded exactly if it arrived from there
    pub arrived_there : (from index : ℕ) (x : Transfer) → at_place from (history s O L from) index ≡ Some x → is_at index (arrived_at from x.id book.arrivals) ≡ is_forwarded from x.id book.events
    arrived_there from index x there = go (arrived_at from x.id book.arrivals) refl
      where
        go : (o : Option ℕ) → arrived_at from x.id book.arrivals ≡ o → is_at index o ≡ is_forwarded from x.id book.events
        go None none = elim (cases_Bool (is_forwarded from x.id book.events)) [
          | inl came ↦
              let some = is_adopted (λ (c : Contents). c.settings) plain_knows (λ c r. Unit {0}) b book from x.id member.lawful member.adopted came (forwarded_live from index x there came) in
              absurd (false≢true (sym (ap (λ (o : Option ℕ). is_some o) none) ∙ some))
          | inr never ↦ sym never
        ]
        go (Some found) some =
            let y = came_from from x.id found some in
            let same : found ≡ index = places_apart s from (history s O L from) found index y.0 x ((together s O opening L steps).sound from) y.1 there y.2 in
            ap (λ (n : ℕ). n == index) same ∙ eqb_refl index ∙ sym (came_forwarded from x.id found some)
