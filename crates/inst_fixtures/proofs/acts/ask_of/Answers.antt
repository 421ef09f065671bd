use Rattle.std.proofs.Common.{◌≡◌, arith}
use Rattle.inst_board.specs.Plain.{Contents, plain_knows}
use Rattle.inst_slot.specs.Opening.{unfound}
use Rattle.inst_slot.proofs.ForwardedTransfersHavePlaces.{asks_adopted}
use Rattle.inst_slot.proofs.ArrivalGetsItsPlace.{all_found}
use Rattle.inst_fixtures.proofs.acts.ask_of.Goals as goal

pub apply-requires-clause-adopted : goal.apply-requires-clause-adopted
apply-requires-clause-adopted c =
    let none : unfound c.args.slot.now ≡ 0 = omega (arith, c.unfound.ensures, c.if-unfound-gt0.false) in
    asks_adopted (λ (b : Contents). b.settings) plain_knows (λ _ _. Unit {0}) c.args.board.now c.args.slot.now c.args.ask.now.command c.requires.lawful (all_found c.args.slot.now.arrivals none)
