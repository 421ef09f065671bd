use Rattle.std.proofs.Common.{rules}
use Rattle.std.proofs.lemmas.List.Sorted.{answers_always}
use Rattle.inst_slot.specs.declared.arrivals.Spot.{Spot}
use Rattle.inst_slot.proofs.Spots.{spot_found, no_spot}
use Rattle.inst_slot.proofs.arrivals.spot_at.Goals as goal

pub returns-in-Ok : goal.returns-in-Ok
returns-in-Ok c =
    spot_found c.args.spots.now c.requires.rising c.args.position c.in-Ok.at c.in-Ok.ensures.bound
    (c.in-Ok.ensures.position (λ (s : Spot). s.position) (answers_always _ _ _ (λ f a r g called. search rules)))

pub returns-in-Err : goal.returns-in-Err
returns-in-Err c =
    no_spot c.args.spots.now c.requires.rising c.args.position c.in-Err.field-0
    (c.in-Err.ensures.position (λ (s : Spot). s.position) (answers_always _ _ _ (λ f a r g called. search rules)))
