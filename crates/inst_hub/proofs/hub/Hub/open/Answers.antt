use Rattle.std.proofs.Common.{ℕ, ◌<◌, length, [], refl, ap, ◌≡◌, ◌∙◌, Some, sym, subst, List, arith}
use Rattle.std.proofs.lemmas.Grind.{common_steps}
use Rattle.std.specs.Prelude.{slice_get}
use Rattle.inst_journal.specs.declared.event.Event.{Event}
use Rattle.inst_cell.specs.declared.shared_board.SharedBoard.{SharedBoard}
use Rattle.inst_row.specs.declared.view.Front.{Front}
use Rattle.inst_row.specs.Row.{row_id, key_of}
use Rattle.inst_row.specs.Seated.{IsOn}
use Rattle.inst_cell.specs.Opening.{MayOpen}
use Rattle.inst_hub.specs.declared.initial_state.InitialState.{InitialState}
use Rattle.inst_settings.specs.Settings.{participants}
use Rattle.inst_hub.specs.Founding.{outset_of}
use Rattle.inst_hub.specs.Opening.{AreNew}
use Rattle.inst_hub.specs.inner.Opening.{unboxed}
use Rattle.inst_hub.proofs.BoardsAndTellersOfNewHub.{unboxed_length, blank_opened, opened_behind, behind_fronts, new_are_of}
use Rattle.inst_hub.proofs.BoardOfReopenedHub.{may_open}
use Rattle.inst_hub.proofs.CarriedHistoryStays.{first_since, first_carried}
use Rattle.inst_hub.proofs.hub.Hub.open.Goals as goal

pub participants-requires : goal.participants-requires
participants-requires c =
    (c.in_ok-boards.ensures.ok.table, record { enough = c.in_ok-boards.ensures.ok.participants; each = c.in_ok-boards.ensures.ok.board })

pub open-requires-2 : goal.open-requires-2
open-requires-2 c =
    let at : slice_get c.in_ok-boards.boards.items 0 ≡ Some c.in-Some.first.now = ap (λ (l : List SharedBoard). slice_get l 0) (sym c.deref.ensures.value) ∙ sym c.in-Some.ensures.value in
    let is : c.of-words.result.value ≡ c.in-Some.first.now = c.of-words.ensures in
    let are = opened_behind c.args.settings c.args.tellers c.in_ok-boards.boards.items c.in_ok-boards.sights.items (unboxed c.in_ok-all.all.items) c.in-Some.first.now c.of-words.result.value c.in_ok-boards.ensures.ok c.in_ok-all.ensures.ok at is in
    record { values = first_since (record { words = c.of-words.result; all = c.of.result }) _ _ _ c.in_ok-all.all.items are refl (ap (λ v. v.items) c.of.ensures) }

pub admit-requires-clause-on : goal.admit-requires-clause-on
admit-requires-clause-on c = subst (λ (k : InitialState). IsOn (row_id c.in_ok-row.row) k c.in_ok-row.seat) (sym c.in_ok-row.ensures.row.1) c.in_ok-row.ensures.seat.0

pub admit-requires-clause-all : goal.admit-requires-clause-all
admit-requires-clause-all c = c.in_ok-row.ensures.seat.1

pub admit-requires-clause-sights : goal.admit-requires-clause-sights
admit-requires-clause-sights c =
    let at : slice_get c.in_ok-boards.boards.items 0 ≡ Some c.in-Some.first.now = ap (λ (l : List SharedBoard). slice_get l 0) (sym c.deref.ensures.value) ∙ sym c.in-Some.ensures.value in
    let words : (key_of c.in_ok-row.row).words.value ≡ c.in-Some.first.now = ap (λ k. k.words.value) c.in_ok-row.ensures.row.1 ∙ c.of-words.ensures in
    let are = c.in_ok-boards.ensures.ok in (
      subst (λ (n : ℕ). MayOpen n) (sym are.enough) (may_open c.open.result _ _ c.args.tellers c.in_ok-boards.was c.open.ensures.bad.1),
      blank_opened c.args.settings c.args.tellers c.in_ok-boards.boards.items c.in_ok-boards.sights.items c.in-Some.first.now (key_of c.in_ok-row.row).words.value are at words,
    )

pub invariant_of-result-clause-sized : goal.invariant_of-result-clause-sized
invariant_of-result-clause-sized c =
    c.in_ok-row.ensures.row.0 ∙ (sym (unboxed_length c.in_ok-all.all.items) ∙ (c.in_ok-all.ensures.ok.enough ∙ c.in_ok-boards.ensures.ok.participants))

pub returns-clause-tellers : goal.returns-clause-tellers
returns-clause-tellers c =
    let at : slice_get c.in_ok-boards.boards.items 0 ≡ Some c.in-Some.first.now = ap (λ (l : List SharedBoard). slice_get l 0) (sym c.deref.ensures.value) ∙ sym c.in-Some.ensures.value in
    let is : c.of-words.result.value ≡ c.in-Some.first.now = c.of-words.ensures in
    let are = opened_behind c.args.settings c.args.tellers c.in_ok-boards.boards.items c.in_ok-boards.sights.items (unboxed c.in_ok-all.all.items) c.in-Some.first.now c.of-words.result.value c.in_ok-boards.ensures.ok c.in_ok-all.ensures.ok at is in
    record {
      enough = c.in_ok-tellers.ensures.enough ∙ c.in_ok-boards.ensures.ok.enough;
      of = new_are_of _ _ c.in_ok-tellers.tellers.items c.in_ok-tellers.ensures.new;
      new = subst (λ (fs : List (Front Event)). AreNew (row_id c.in_ok-row.row) (key_of c.in_ok-row.row) fs c.in_ok-tellers.tellers.items) (c.in_ok-row.ensures.seen ∙ behind_fronts _ _ _ c.in_ok-all.all.items are) c.in_ok-tellers.ensures.new;
      parts = c.in_ok-tellers.ensures.parts;
    }

pub returns-clause-opened : goal.returns-clause-opened
returns-clause-opened c = λ p below.
    let at : slice_get c.in_ok-boards.boards.items 0 ≡ Some c.in-Some.first.now = ap (λ (l : List SharedBoard). slice_get l 0) (sym c.deref.ensures.value) ∙ sym c.in-Some.ensures.value in
    let is : c.of-words.result.value ≡ c.in-Some.first.now = c.of-words.ensures in
    let are = opened_behind c.args.settings c.args.tellers c.in_ok-boards.boards.items c.in_ok-boards.sights.items (unboxed c.in_ok-all.all.items) c.in-Some.first.now c.of-words.result.value c.in_ok-boards.ensures.ok c.in_ok-all.ensures.ok at is in
    let many : length c.in_ok-all.all.items ≡ participants c.args.settings = sym (unboxed_length c.in_ok-all.all.items) ∙ (c.in_ok-all.ensures.ok.enough ∙ c.in_ok-boards.ensures.ok.participants) in
    ap (λ k. outset_of k p) c.in_ok-row.ensures.row.1
    ∙ first_carried (record { words = c.of-words.result; all = c.of.result }) c.of-words.result.value (participants c.args.settings) (λ q. []) c.in_ok-all.all.items are (ap (λ v. v.items) c.of.ensures) p (subst (λ (n : ℕ). p < n) (sym many) below)

pub admit-requires-clause-some : goal.admit-requires-clause-some
admit-requires-clause-some c = grind (arith, common_steps)
