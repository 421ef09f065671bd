use Rattle.inst_board.specs.declared.about.About.TheVariants.{Opened}
use Rattle.inst_board.specs.Standing.{about}
use Rattle.inst_cell.proofs.FactsLearntFromStep.{five_loads, knows_still, same_some, no_none}
use Rattle.inst_cell.proofs.shared_board.SharedBoard.terms.Goals as goal

pub load_term-first-requires-clause-opened : goal.load_term-first-requires-clause-opened
load_term-first-requires-clause-opened c =
    let f = about c.args.place Opened in
    let h0 = c.requires.opened in
    let h1 = knows_still c.args.self.now c.load_term-money.new.self f c.load_term-money.ensures.stays.settings c.load_term-money.ensures.view h0 in
    h1

pub load_term-second-requires-clause-opened : goal.load_term-second-requires-clause-opened
load_term-second-requires-clause-opened c =
    let f = about c.args.place Opened in
    let h0 = c.requires.opened in
    let h1 = knows_still c.args.self.now c.load_term-money.new.self f c.load_term-money.ensures.stays.settings c.load_term-money.ensures.view h0 in
    let h2 = knows_still c.load_term-money.new.self c.load_term-first.new.self f c.load_term-first.ensures.stays.settings c.load_term-first.ensures.view h1 in
    h2

pub load_term-third-requires-clause-opened : goal.load_term-third-requires-clause-opened
load_term-third-requires-clause-opened c =
    let f = about c.args.place Opened in
    let h0 = c.requires.opened in
    let h1 = knows_still c.args.self.now c.load_term-money.new.self f c.load_term-money.ensures.stays.settings c.load_term-money.ensures.view h0 in
    let h2 = knows_still c.load_term-money.new.self c.load_term-first.new.self f c.load_term-first.ensures.stays.settings c.load_term-first.ensures.view h1 in
    let h3 = knows_still c.load_term-first.new.self c.load_term-second.new.self f c.load_term-second.ensures.stays.settings c.load_term-second.ensures.view h2 in
    h3

pub load_term-fourth-requires-clause-opened : goal.load_term-fourth-requires-clause-opened
load_term-fourth-requires-clause-opened c =
    let f = about c.args.place Opened in
    let h0 = c.requires.opened in
    let h1 = knows_still c.args.self.now c.load_term-money.new.self f c.load_term-money.ensures.stays.settings c.load_term-money.ensures.view h0 in
    let h2 = knows_still c.load_term-money.new.self c.load_term-first.new.self f c.load_term-first.ensures.stays.settings c.load_term-first.ensures.view h1 in
    let h3 = knows_still c.load_term-first.new.self c.load_term-second.new.self f c.load_term-second.ensures.stays.settings c.load_term-second.ensures.view h2 in
    let h4 = knows_still c.load_term-second.new.self c.load_term-third.new.self f c.load_term-third.ensures.stays.settings c.load_term-third.ensures.view h3 in
    h4

pub unreachable-requires : goal.unreachable-requires
unreachable-requires c =
    let z = c.load_term-money in let a = c.load_term-first in let b = c.load_term-second in let d = c.load_term-third in let e = c.load_term-fourth in
    let w = c.requires.known in
    let five = five_loads c.args.place c.args.self.now z.new.self a.new.self b.new.self d.new.self _ _ _ _ _ z.ensures.stays.settings a.ensures.stays.settings b.ensures.stays.settings d.ensures.stays.settings
    z.ensures.view a.ensures.view b.ensures.view d.ensures.view z.ensures.term a.ensures.term b.ensures.term d.ensures.term e.ensures.term w.0 w.1 in
    no_none _ _ ((c.unpack.ensures w.0).1 five) c.in-None.is

pub returns-clause-terms : goal.returns-clause-terms
returns-clause-terms c = λ t h.
    let z = c.load_term-money in let a = c.load_term-first in let b = c.load_term-second in let d = c.load_term-third in let e = c.load_term-fourth in
    let five = five_loads c.args.place c.args.self.now z.new.self a.new.self b.new.self d.new.self _ _ _ _ _ z.ensures.stays.settings a.ensures.stays.settings b.ensures.stays.settings d.ensures.stays.settings
    z.ensures.view a.ensures.view b.ensures.view d.ensures.view z.ensures.term a.ensures.term b.ensures.term d.ensures.term e.ensures.term t h in
    same_some _ _ _ c.in-Some.is ((c.unpack.ensures t).1 five)
