use Rattle.std.proofs.Common.{◌<◌, length, ◌≡◌, ◌∙◌, ℕ, List, ap, sym, subst, arith}
use Rattle.std.proofs.lemmas.Grind.{common_steps}
use Rattle.inst_journal.specs.declared.event.Event.{Event}
use Rattle.inst_settings.specs.Settings.{participants}
use Rattle.inst_cell.specs.Opening.{MayOpen}
use Rattle.inst_row.specs.declared.view.Front.{Front}
use Rattle.inst_row.specs.Row.{row_id, key_of}
use Rattle.inst_row.specs.Seated.{IsOn}
use Rattle.inst_hub.specs.declared.initial_state.InitialState.{InitialState}
use Rattle.inst_world.specs.NextOpening.{books_of}
use Rattle.inst_journal.proofs.EventsCarriedOverOpening.{carried_opened}
use Rattle.inst_hub.specs.Founding.{outset_of}
use Rattle.inst_hub.specs.Opening.{AreNew}
use Rattle.inst_hub.specs.NextOpening.{histories_from}
use Rattle.inst_hub.proofs.BoardsAndTellersOfNewHub.{unboxed_length, behind_fronts, new_are_of}
use Rattle.inst_hub.proofs.BoardOfReopenedHub.{may_open, blank_admitted}
use Rattle.inst_hub.proofs.CarriedHistoryStays.{first_since, first_carried}
use Rattle.inst_hub.proofs.hub.Hub.open_from.Goals as goal

pub open-requires : goal.open-requires
open-requires c = record {
  values = first_since (record { words = c.of-words.result; all = c.of.result }) c.in_ok-whole.whole (participants c.args.settings) (histories_from c.args.journals.now) c.in_ok-all.all.items c.in_ok-all.ensures.ok c.of-words.ensures (ap (λ v. v.items) c.of.ensures);
}

pub admit-requires-clause-on : goal.admit-requires-clause-on
admit-requires-clause-on c = subst (λ (k : InitialState). IsOn (row_id c.in_ok-row.row) k c.in_ok-row.seat) (sym c.in_ok-row.ensures.row.1) c.in_ok-row.ensures.seat.0

pub admit-requires-clause-all : goal.admit-requires-clause-all
admit-requires-clause-all c = c.in_ok-row.ensures.seat.1

pub admit-requires-clause-sights : goal.admit-requires-clause-sights
admit-requires-clause-sights c =
    let words : (key_of c.in_ok-row.row).words.value ≡ c.in_ok-whole.whole = ap (λ k. k.words.value) c.in_ok-row.ensures.row.1 ∙ c.of-words.ensures in
    let are = c.in_ok-whole.ensures.sights in (
      subst (λ (n : ℕ). MayOpen n) (sym are.enough) (may_open c.open_whole.result _ _ c.args.tellers c.in_ok-whole.was c.open_whole.ensures.bad.1),
      blank_admitted c.in_ok-whole.whole (key_of c.in_ok-row.row).words.value c.args.tellers c.in_ok-whole.sights.items are words,
    )

pub invariant_of-result-clause-sized : goal.invariant_of-result-clause-sized
invariant_of-result-clause-sized c = c.in_ok-row.ensures.row.0 ∙ (sym (unboxed_length c.in_ok-all.all.items) ∙ c.in_ok-all.ensures.ok.enough)

pub returns-clause-tellers : goal.returns-clause-tellers
returns-clause-tellers c = record {
  enough = c.in_ok-tellers.ensures.enough ∙ c.in_ok-whole.ensures.sights.enough;
  of = new_are_of _ _ c.in_ok-tellers.tellers.items c.in_ok-tellers.ensures.new;
  new = subst (λ (fs : List (Front Event)). AreNew (row_id c.in_ok-row.row) (key_of c.in_ok-row.row) fs c.in_ok-tellers.tellers.items)
      (c.in_ok-row.ensures.seen ∙ behind_fronts c.in_ok-whole.whole (participants c.args.settings) (histories_from c.args.journals.now) c.in_ok-all.all.items c.in_ok-all.ensures.ok) c.in_ok-tellers.ensures.new;
  parts = c.in_ok-tellers.ensures.parts;
}

pub returns-clause-opened : goal.returns-clause-opened
returns-clause-opened c = λ p below.
    let many : length c.in_ok-all.all.items ≡ participants c.args.settings = sym (unboxed_length c.in_ok-all.all.items) ∙ c.in_ok-all.ensures.ok.enough in
    ap (λ k. outset_of k p) c.in_ok-row.ensures.row.1
    ∙ (first_carried (record { words = c.of-words.result; all = c.of.result }) c.in_ok-whole.whole (participants c.args.settings) (histories_from c.args.journals.now) c.in_ok-all.all.items c.in_ok-all.ensures.ok (ap (λ v. v.items) c.of.ensures) p (subst (λ (n : ℕ). p < n) (sym many) below)
    ∙ carried_opened (books_of c.args.journals.now p))

pub admit-requires-clause-some : goal.admit-requires-clause-some
admit-requires-clause-some c = grind (arith, common_steps)
