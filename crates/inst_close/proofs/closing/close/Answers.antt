use Rattle.inst_participant.proofs.OneBookSettlesOthersStay.{if_ok}
use Rattle.inst_participant.proofs.SettlementPlaceByPlace.{told_nothing}
use Rattle.inst_participant.specs.Apart.{histories_of}
use Rattle.inst_close.specs.Closing.{AreOfHub, IsClosedFrom}
use Rattle.inst_close.proofs.RemainsOfClosingHub.{books_of_parts, left_then}
use Rattle.inst_close.proofs.closing.close.Goals as goal
use Rattle.inst_close.proofs.closing.close.Goals.{In-Ok}

-- the parts are those of the hub with these tellers
of_hub : (c : In-Ok) → AreOfHub c.args.hub c.args.tellers.items c.in-Ok.parts
of_hub c = record {
  settings = c.in-Ok.ensures.settings;
  opened = λ O o. c.in-Ok.ensures.parts O o.0 o.1;
  goes_on = c.in-Ok.ensures.seen.goes_on;
  only_told = λ p below. (histories_of c.in-Ok.parts p, c.in-Ok.ensures.seen.last p below, told_nothing (histories_of c.in-Ok.parts p));
  knows = c.in-Ok.ensures.seen.knows;
}

pub returns-in-Ok-clause-books : goal.returns-in-Ok-clause-books
returns-in-Ok-clause-books c =
    if_ok c.close_parts.result _ (λ books. IsClosedFrom c.args.hub c.args.tellers.items books) (λ books closed. closed c.args.hub c.args.tellers.items (of_hub (goal.at.returns-in-Ok-clause-books c).In-Ok))
    (books_of_parts c.in-Ok.parts c.close_parts.result c.close_parts.ensures.settings c.close_parts.ensures.histories c.close_parts.ensures.told)

pub returns-in-Ok-clause-left : goal.returns-in-Ok-clause-left
returns-in-Ok-clause-left c =
    let so = c.requires.opened in
    let of = of_hub (goal.at.returns-in-Ok-clause-left c).In-Ok in
    left_then c.args.hub c.args.tellers.items c.in-Ok.parts c.close_parts.result of (so.0, of.opened so.0 so.1) c.close_parts.ensures.left
