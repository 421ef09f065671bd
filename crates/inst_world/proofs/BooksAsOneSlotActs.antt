-- The books of a world as one slot acts.
use Rattle.std.proofs.Common.{◌≡◌, ℕ, zero, suc, ◌<◌, true, List, [], ◌∷◌, length, get_or, set, Some, refl, sym, ap, subst, ◌∙◌, inl, inr, arith, length-set}
use Rattle.std.specs.Prelude.{slice_get}
use Rattle.std.proofs.lemmas.Option.{slice_get-get_or}
use Rattle.std.proofs.lemmas.Bool.{ltb-true}
use Rattle.inst_base.proofs.Lists.{set_cases}
use Rattle.inst_settings.specs.Settings.{HubSettings, is_participant, participants}
use Rattle.inst_command.specs.Step.{step_fits}
use Rattle.inst_command.specs.declared.step.Step.{Step}
use Rattle.inst_board.specs.Plain.{Contents, plain_knows}
use Rattle.inst_model.specs.Opening.{Opening, IsOpening}
use Rattle.inst_model.specs.Interleaving.{IsInterleaving}
use Rattle.inst_model.specs.Hub.{history}
use Rattle.inst_slot.specs.Book.{Book}
use Rattle.inst_slot.specs.LawfulBoard.{IsLawfulBoard, KeepsOthers, AllAreAdopted}
use Rattle.inst_world.specs.HasRun.{World, world_settings, IsMember, IsWorld, HasRun, IsAsBefore, IsBoardOf}
use Rattle.inst_world.proofs.PlaceOfKnownTransfer.{IsTheSame}
use Rattle.inst_world.proofs.PlacesOfLiveTransfers.{actor, others_stay}
use Rattle.inst_world.proofs.DeliveryAndResolutionFollowModel.{Ran}

-- the slot that a participant's number leads to
pub record LeadsTo (world : World) (p i : ℕ) (slot : Book) : Type 0 where
  pub below : i < length world.books
  pub same : i ≡ p
  pub there : slice_get world.books p ≡ Some slot
  pub member : IsMember (world_settings world) world.board p slot

-- where a contract saw the world so
pub leads_to : (world seen : World) (p i : ℕ) (slot : Book) → IsWorld world → world ≡ seen → is_participant (world_settings seen) p ≡ true → i ≡ p → slot ≡ get_or world.books i slot → LeadsTo world p i slot
leads_to world seen p i slot is_world saw number same here =
    let one : is_participant (world_settings world) p ≡ true = ap (λ (w : World). is_participant (world_settings w) p) saw ∙ number in
    let below : i < length world.books = omega (arith, ltb-true p (participants (world_settings world)) one, is_world.one_each) in
    let there : slice_get world.books p ≡ Some slot = ap (slice_get world.books) (sym same) ∙ slice_get-get_or world.books i slot below ∙ ap (λ (b : Book). Some b) (sym here) in
    record { below = below; same = same; there = there; member = is_world.member p slot there }

-- one slot acted: its books and those of the others stay lawful
pub acted : (books : List Book) (b c : Contents) (p i : ℕ) (slot new : Book) → IsWorld (record { books = books; board = b }) → LeadsTo (record { books = books; board = b }) p i slot
    → c.settings ≡ b.settings → IsLawfulBoard (λ (d : Contents). d.settings) plain_knows (λ d q. Unit {0}) c new
    → KeepsOthers (λ (d : Contents). d.settings) plain_knows (λ d q. Unit {0}) b slot.who c
    → (new.settings ≡ slot.settings) × (new.who ≡ slot.who) → (AllAreAdopted slot → AllAreAdopted new)
    → IsWorld (record { books = set books i new; board = c })
acted books b c p i slot new is_world leads stays lawful others same adopted = record {
  one_each = length-set books i new ∙ is_world.one_each ∙ ap participants (sym stays);
  member = λ q book there. elim (set_cases books i q new book leads.below there) [
    | inl own ↦ subst (λ (x : Book). IsMember c.settings c q x) (sym own.1) (record {
      settings_are = same.0 ∙ leads.member.settings_are ∙ sym stays;
      who_is = same.1 ∙ leads.member.who_is ∙ sym leads.same ∙ sym own.0;
      lawful = lawful;
      adopted = adopted leads.member.adopted;
    })
    | inr other ↦
        let m = is_world.member q book other.1 in
        record {
          settings_are = m.settings_are ∙ sym stays;
          who_is = m.who_is;
          lawful = others book (λ e. other.0 (sym m.who_is ∙ e ∙ leads.member.who_is ∙ sym leads.same)) m.lawful;
          adopted = m.adopted;
        }
  ];
}

-- the world has run the step that its actor's slot ran
pub has_run : (books : List Book) (b c : Contents) (i : ℕ) (slot new : Book) (O : Opening) (L : List Step) (step : Step) → HasRun O L (record { books = books; board = b })
    → LeadsTo (record { books = books; board = b }) (actor step) i slot → c.settings ≡ b.settings → step_fits b.settings step ≡ true → Ran b.settings O step L new c
    → HasRun O (step ∷ L) (record { books = set books i new; board = c })
has_run books b c i slot new O L step was leads stays fits ran =
    let at : HubSettings → Type 0 = λ s. IsOpening s O × IsInterleaving s (step ∷ L) × ((p : ℕ) (book : Book) → slice_get (set books i new) p ≡ Some book → book.events ≡ history s O (step ∷ L) p) × IsBoardOf s O (step ∷ L) c in
    let here : at b.settings = (was.opening, (fits, was.steps), (λ p book there. histories p book there), ran.board) in
    let r : at c.settings = subst at (sym stays) here in
    record { opening = r.0; steps = r.1; histories = r.2; board = r.3 }
  where
    histories : (p : ℕ) (book : Book) → slice_get (set books i new) p ≡ Some book → book.events ≡ history b.settings O (step ∷ L) p
    histories p book there = elim (set_cases books i p new book leads.below there) [
      | inl own ↦ ap (λ (x : Book). x.events) own.1 ∙ ran.events ∙ ap (history b.settings O (step ∷ L)) (sym leads.same ∙ sym own.0)
      | inr other ↦ was.histories p book other.1 ∙ sym (others_stay b.settings O step L p (λ e. other.0 (e ∙ sym leads.same)))
    ]

-- a refused step left the world as it was
pub as_before : (books : List Book) (b c : Contents) (p i : ℕ) (slot new : Book) → LeadsTo (record { books = books; board = b }) p i slot → c.settings ≡ b.settings → new ≡ slot → IsTheSame b c
    → IsAsBefore (record { books = books; board = b }) (record { books = set books i new; board = c })
as_before books b c p i slot new leads stays back same = record {
  settings_are = stays;
  books_are = ap (set books i) back ∙ set_back books i slot (ap (slice_get books) leads.same ∙ leads.there);
  board_says = λ index. same index;
}
  where
    set_back : (xs : List Book) (k : ℕ) (x : Book) → slice_get xs k ≡ Some x → set xs k x ≡ xs
    set_back [] k x e = refl
    set_back (y ∷ xs) zero x e = let is : x ≡ y = cc in ap (λ (z : Book). z ∷ xs) is
    set_back (y ∷ xs) (suc k) x e = ap (λ (zs : List Book). y ∷ zs) (set_back xs k x e)
