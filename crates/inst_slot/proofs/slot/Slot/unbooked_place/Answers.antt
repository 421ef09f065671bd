use Rattle.std.proofs.Common.{Bool, None, cond, sym, ap, ◌∙◌, subst, arith}
use Rattle.std.proofs.lemmas.Grind.{common_steps}
use Rattle.inst_ledger.specs.Right.{IsRight}
use Rattle.inst_transfers.specs.Held.{state_in}
use Rattle.inst_slot.specs.Book.{Book, place_with_index}
use Rattle.inst_slot.proofs.Spots.{unbooked_is, is_unbooked}
use Rattle.inst_slot.proofs.slot.Slot.unbooked_place.Goals as goal

pub returns-then-is_some : goal.returns-then-is_some
returns-then-is_some c =
    let f = c.in_ok-found.found in
    let s = c.args.spot.now in
    let right = subst (λ (x : Book). IsRight x.who x.events (state_in c.self.inside.ledger.table)) c.self.view_is c.in_ok-found.ensures.right in
    let no = is_unbooked f.transfer.outcome _ (sym c.is_some.ensures ∙ c.if-is_some.true) in
    sym (unbooked_is c.args.self.now c.self.inside.ledger.table f s right c.in_ok-found.ensures.found.1 c.in_ok-found.ensures.found.0 ∙ ap (λ (b : Bool). cond b (place_with_index f.from s.index) None) no)

pub returns : goal.returns
returns c =
    let f = c.in_ok-found.found in
    let s = c.args.spot.now in
    let right = subst (λ (x : Book). IsRight x.who x.events (state_in c.self.inside.ledger.table)) c.self.view_is c.in_ok-found.ensures.right in
    let yes = is_unbooked f.transfer.outcome _ (sym c.is_some.ensures ∙ c.if-is_some.false) in
    sym (unbooked_is c.args.self.now c.self.inside.ledger.table f s right c.in_ok-found.ensures.found.1 c.in_ok-found.ensures.found.0 ∙ ap (λ (b : Bool). cond b (place_with_index f.from s.index) None) yes
    ∙ ap (place_with_index f.from) c.in_ok-index.was)

pub returns-in_err-found : goal.returns-in_err-found
returns-in_err-found c = grind (arith, common_steps)
