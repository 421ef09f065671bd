use Rattle.std.proofs.Common.{◌≡◌, [], ◌∷◌, ◌++◌, List, ℕ, ap, ◌∙◌, rules}
use Rattle.inst_log.specs.Layout.{recovered_lines}
use Rattle.inst_chain.specs.Chain.{mark_of, said}
use Rattle.inst_chain.proofs.BatchBehindChain.{marked_lines, marked_whole}
use Rattle.inst_chain.proofs.LinesWithoutMarks.{said_behind}
use Rattle.inst_chain.proofs.marker.mark_lines.Goals as goal

pub returns-clause-whole : goal.returns-clause-whole
returns-clause-whole c =
    let is : c.push.new.self.items ≡ (c.args.batch.now.items ++ c.mark-mark.result) ++ 10 ∷ [] = search rules in
    marked_whole c.args.batch.now.items c.mark-mark.result c.push.new.self.items c.requires c.mark-mark.ensures.line is

pub returns-clause-lines : goal.returns-clause-lines
returns-clause-lines c = λ text digests.
    let is : c.push.new.self.items ≡ (c.args.batch.now.items ++ c.mark-mark.result) ++ 10 ∷ [] = search rules in
    marked_lines c.args.batch.now.items c.mark-mark.result c.push.new.self.items c.requires c.mark-mark.ensures.line is
    ∙ ap (λ (m : List ℕ). recovered_lines c.args.batch.now.items ++ m ∷ [])
    (c.mark-mark.ensures.mark _ (c.add.ensures text digests) ∙ ap (λ (l : List ℕ). mark_of (text ++ l)) c.deref.ensures.value)

pub returns-clause-said : goal.returns-clause-said
returns-clause-said c =
    let is : c.push.new.self.items ≡ (c.args.batch.now.items ++ c.mark-mark.result) ++ 10 ∷ [] = search rules in
    ap said (marked_lines c.args.batch.now.items c.mark-mark.result c.push.new.self.items c.requires c.mark-mark.ensures.line is)
    ∙ said_behind (recovered_lines c.args.batch.now.items) c.mark-mark.result c.mark-mark.ensures.is
