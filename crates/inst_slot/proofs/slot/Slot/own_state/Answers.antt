use Rattle.std.proofs.Common.{◌≡◌, ℕ, refl, ◌∙◌, sym, ap}
use Rattle.inst_journal.specs.Booked.{booked}
use Rattle.inst_transfers.specs.Held.{found_at}
use Rattle.inst_transfers.specs.State.{outcome_in}
use Rattle.inst_slot.specs.Book.{Book}
use Rattle.inst_ledger.specs.Right.{own_ids}
use Rattle.inst_slot.specs.OwnState.{own_state, booked_state}
use Rattle.inst_slot.proofs.OwnIds.{unused_there, used_there}
use Rattle.inst_slot.proofs.slot.Slot.own_state.Goals as goal
use Rattle.inst_slot.proofs.slot.Slot.own_state.Goals.{In-Some}

pub returns-in_default : goal.returns-in_default
returns-in_default c =
    let kept = c.self.inside.ledger.book in
    sym (unused_there kept.who kept.events (own_ids kept.who kept.events) c.args.index refl c.in_default.ensures.none)
    ∙ ap (λ (x : Book). own_state x.who x.events c.args.index) c.self.view_is

-- what is booked is the state
told : (c : In-Some) → booked_state c.in-Some.found.transfer.outcome ≡ own_state c.args.self.now.who c.args.self.now.events c.args.index
told c =
    let l = c.self.inside.ledger in
    let kept = l.book in
    let f = c.in-Some.found in
    let e = c.in-Some.ensures in
    let there = ap (λ (n : ℕ). found_at l.table.entries (n, f.id)) (sym e.found.0) ∙ e.found.1.transfer in
    let known : f.transfer.outcome ≡ booked kept.who f.id kept.events = sym (ap outcome_in there) ∙ e.right.booked (kept.who, f.id) in
    ap booked_state known ∙ sym (used_there kept.who kept.events (own_ids kept.who kept.events) c.args.index f.id refl e.at)
    ∙ ap (λ (x : Book). own_state x.who x.events c.args.index) c.self.view_is

pub returns-in-Some-booked : goal.returns-in-Some-booked
returns-in-Some-booked c = sym (ap booked_state c.in-Some-booked.is) ∙ told (goal.at.returns-in-Some-booked c).In-Some

pub returns-in-None : goal.returns-in-None
returns-in-None c = sym (ap booked_state c.in-None.is) ∙ told (goal.at.returns-in-None c).In-Some
