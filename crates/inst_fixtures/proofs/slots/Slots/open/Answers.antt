use Rattle.std.proofs.Common.{◌≡◌, ℕ, List, [], ◌∷◌, ◌++◌, sym, ap, subst, ◌∙◌}
use Rattle.inst_settings.specs.Settings.{HubSettings}
use Rattle.inst_command.specs.declared.place.Place.{Place}
use Rattle.inst_board.specs.declared.plain.Kept.{Kept}
use Rattle.inst_board.specs.declared.plain.Kept.TheVariants.{Unused}
use Rattle.inst_board.specs.Plain.{Contents, plain_knows, kept_at, standing_of}
use Rattle.inst_board.specs.Standing.{Says}
use Rattle.inst_slot.specs.Book.{Book}
use Rattle.inst_slot.proofs.ForwardedTransfersHavePlaces.{begins}
use Rattle.inst_fixtures.proofs.SlotsOverOneBoard.{Stands, AreBooks, three}
use Rattle.inst_fixtures.proofs.slots.Slots.open.Goals as goal

opened : (b : Contents) (s : HubSettings) (who : ℕ) (book : Book) → b.settings ≡ s → ((k : Place) → kept_at b k ≡ Unused) → book.settings ≡ s → book.who ≡ who → book.events ≡ [] → book.arrivals ≡ []
    → Stands (λ (x : Contents). x.settings) plain_knows (λ _ _. Unit {0}) b who s book
opened b s who book same nothing settings is events arrivals = (
  begins (λ (x : Contents). x.settings) plain_knows (λ _ _. Unit {0}) b book (same ∙ sym settings) tt
      (λ f known. subst (λ (k : Kept). Says (standing_of k) f.about) (nothing f.place) known) events arrivals,
  is,
  settings,
)

pub invariant_of-result : goal.invariant_of-result
invariant_of-result c =
    let b = c.in_ok-board.board in
    let s = c.in_ok-settings.settings in
    let n = c.in_ok-board.ensures.unused in
    let one = c.in_ok-open.field-0 in
    let two = c.in_ok-open-2.field-0 in
    let last = c.in_ok-open-3.field-0 in
    let x = c.in_ok-open.ensures.ok in
    let y = c.in_ok-open-2.ensures.ok in
    let z = c.in_ok-open-3.ensures.ok in
    let books : c.push-3.new.self.items ≡ one ∷ two ∷ last ∷ [] =
    c.in_ok-push-3.ensures.items ∙ ap (λ (l : List Book). l ++ last ∷ []) (c.in_ok-push-2.ensures.items ∙ ap (λ (l : List Book). l ++ two ∷ []) (c.in_ok-push.ensures.items ∙ ap (λ (l : List Book). l ++ one ∷ []) c.new-slots.ensures.items)) in
    subst (λ (l : List Book). AreBooks (λ (d : Contents). d.settings) plain_knows (λ _ _. Unit {0}) b s l) (sym books)
    (three (λ (d : Contents). d.settings) plain_knows (λ _ _. Unit {0}) b s one two last
    (opened b s 0 one n.0 n.1 x.0 x.1 x.2 x.3) (opened b s 1 two n.0 n.1 y.0 y.1 y.2 y.3) (opened b s 2 last n.0 n.1 z.0 z.1 z.2 z.3))
