use Rattle.std.proofs.Common.{◌≡◌, ◌∙◌, ap, subst, sym, List, length}
use Rattle.std.specs.Prelude.{Option, ◌↔◌}
use Rattle.inst_settings.specs.Settings.{HubSettings, participants}
use Rattle.inst_board.specs.declared.about.Fact.{Fact}
use Rattle.inst_slot.specs.Book.{Book}
use Rattle.inst_cell.specs.Held.{knows}
use Rattle.inst_cell.specs.Opening.{IsWhole}
use Rattle.inst_cell.proofs.BoardsAtOpening.{whole_still}
use Rattle.inst_world.specs.NextOpening.{books_of}
use Rattle.inst_world.specs.inner.NextOpening.{IsOpenedBelow}
use Rattle.inst_participant.specs.declared.participant.Participant.{Participant}
use Rattle.inst_hub.specs.inner.Opening.{AreBehind}
use Rattle.inst_hub.specs.NextOpening.{histories_from}
use Rattle.inst_hub.specs.inner.NextOpening.{AreCarriedSlots, pairs, seated}
use Rattle.inst_hub.proofs.BoardOfReopenedHub.{slots_carried, behind_again, if_ok_then}
use Rattle.inst_hub.proofs.hub.next_opening.carry_over.Goals as goal

pub open_places-requires-clause-whole : goal.open_places-requires-clause-whole
open_places-requires-clause-whole c = subst (λ (t : HubSettings). IsWhole t c.args.whole) (sym c.requires.whole.settings) c.requires.whole

pub open_places-requires-clause-carried : goal.open_places-requires-clause-carried
open_places-requires-clause-carried c =
    let books = books_of c.args.journals.now in
    let world = c.in_ok-open_from.field-0 in
    let ok = c.in_ok-open_from.ensures.ok in (
      books,
      subst (λ (t : HubSettings). AreCarriedSlots t books c.deref.result.now) (sym c.requires.whole.settings)
          (subst (λ (xs : List Book). AreCarriedSlots c.args.settings.now books xs) (sym (c.deref.ensures.value ∙ c.into_slots-slots.ensures.slots))
          (slots_carried c.args.settings.now books world ok.0 c.into_slots-slots.ensures.hub ok.1)),
    )

pub deal-requires : goal.deal-requires
deal-requires c = whole_still c.args.whole c.open_places.new.whole c.open_places.ensures.stays.settings c.open_places.ensures.stays.roles c.requires.whole.roles

pub seat-requires : goal.seat-requires
seat-requires c =
    let ok = c.in_ok-open_from.ensures.ok in
    let boards : length c.in_ok-boards.boards.items ≡ participants c.args.settings.now = c.in_ok-boards.ensures.boards.enough ∙ ap participants (c.open_places.ensures.stays.settings ∙ c.requires.whole.settings) in
    let slots : length c.into_slots-slots.result.items ≡ participants c.args.settings.now = ap length c.into_slots-slots.ensures.slots ∙ (c.into_slots-slots.ensures.hub.one_each ∙ ap participants ok.0) in
    boards ∙ sym slots

pub returns : goal.returns
returns c =
    let s = c.args.settings.now in
    let books = books_of c.args.journals.now in
    let world = c.in_ok-open_from.field-0 in
    let ok = c.in_ok-open_from.ensures.ok in
    let hub = c.into_slots-slots.ensures.hub in
    let first = c.args.whole in
    let begun = c.requires.whole.settings in
    let whole = c.open_places.new.whole in
    let stays = c.open_places.ensures.stays in
    let carried = subst (λ (t : HubSettings). AreCarriedSlots t books c.deref.result.now) (sym begun)
    (subst (λ (xs : List Book). AreCarriedSlots s books xs) (sym (c.deref.ensures.value ∙ c.into_slots-slots.ensures.slots)) (slots_carried s books world ok.0 hub ok.1)) in
    let known : (f : Fact) → knows whole f ↔ IsOpenedBelow s books (participants s) f =
    λ f. subst (λ (t : HubSettings). knows whole f ↔ IsOpenedBelow t books (participants t) f) begun (c.open_places.ensures.known books carried f) in
    let behind = behind_again s books c.requires.journals.books world ok.0 hub ok.1 first whole stays begun known c.in_ok-boards.boards.items c.in_ok-boards.ensures.boards in
    record {
      ok = if_ok_then _ _ c.seat.result
          (λ all is. subst (λ (xs : List (Option Participant)). AreBehind first (participants s) (histories_from c.args.journals.now) xs)
          (sym (is ∙ ap (λ (bs : List Book). pairs seated bs c.in_ok-boards.boards.items) c.into_slots-slots.ensures.slots)) behind)
          c.seat.ensures.ok;
    }
