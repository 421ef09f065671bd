use Rattle.std.proofs.Common.{◌∙◌, arith}
use Rattle.inst_cell.proofs.KnowledgeAfterStep.{wrote_still, place_still, knows_same, facts_noted}
use Rattle.inst_cell.proofs.shared_board.board.SharedBoardBoard.write_terms.Goals as goal

pub returns-clause-others : goal.returns-clause-others
returns-clause-others c = λ j t ne w0.
    let k = c.args.place in
    let a = c.store_term in let b = c.store_term-2 in let d = c.store_term-3 in let e = c.store_term-4 in let f = c.store_term-5 in
    let b0 = c.args.self.now in let b1 = a.new.self in let b2 = b.new.self in let b3 = d.new.self in let b4 = e.new.self in
    let p0 = c.requires.place in
    let p1 = place_still b0 b1 k a.ensures.stays p0 in
    let p2 = place_still b1 b2 k b.ensures.stays p1 in
    let p3 = place_still b2 b3 k d.ensures.stays p2 in
    let p4 = place_still b3 b4 k e.ensures.stays p3 in
    let w1 = wrote_still b0 b1 k j t 0 _ p0 ne (omega arith) a.ensures.stays a.ensures.view w0 in
    let w2 = wrote_still b1 b2 k j t 1 _ p1 ne (omega arith) b.ensures.stays b.ensures.view w1 in
    let w3 = wrote_still b2 b3 k j t 2 _ p2 ne (omega arith) d.ensures.stays d.ensures.view w2 in
    let w4 = wrote_still b3 b4 k j t 3 _ p3 ne (omega arith) e.ensures.stays e.ensures.view w3 in
    wrote_still b4 f.new.self k j t 4 _ p4 ne (omega arith) f.ensures.stays f.ensures.view w4

pub returns-clause-knowledge : goal.returns-clause-knowledge
returns-clause-knowledge c = λ f.
    let x1 = c.store_term.ensures in let x2 = c.store_term-2.ensures in let x3 = c.store_term-3.ensures in let x4 = c.store_term-4.ensures in let x5 = c.store_term-5.ensures in
    knows_same c.args.self.now c.store_term-5.new.self f
    (x5.stays.settings ∙ (x4.stays.settings ∙ (x3.stays.settings ∙ (x2.stays.settings ∙ x1.stays.settings))))
    (facts_noted _ _ _ _ x5.view ∙ (facts_noted _ _ _ _ x4.view ∙ (facts_noted _ _ _ _ x3.view ∙ (facts_noted _ _ _ _ x2.view ∙ facts_noted _ _ _ _ x1.view))))
