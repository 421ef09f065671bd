use Rattle.std.proofs.Common.{[], List, ℕ, sym, ◌∙◌, ap, subst, length}
use Rattle.inst_log.specs.Layout.{recovered_lines}
use Rattle.inst_log.specs.Pieces.{IsReading}
use Rattle.inst_log.proofs.Lines.{all_lines}
use Rattle.inst_log.proofs.Pieces.{lines_back}
use Rattle.inst_chain.proofs.PlaceOfDamage.{wanted_none}
use Rattle.inst_chain.proofs.verifying.verify_known.Goals as goal

pub verify_rest-requires-clause-started : goal.verify_rest-requires-clause-started
verify_rest-requires-clause-started g c = λ clean.
    let read = c.new.ensures.read.clean clean in
    let done = recovered_lines c.args.known.now in
    let there = c.in_ok-begins_with.ensures.begins read c.if-not-branch.false in
    record {
      done = done;
      reading = subst (λ (f : List ℕ). IsReading f c.in_ok-lines.lines done) (sym c.new.ensures.read.left.same)
          (c.in_ok-lines.ensures.reading clean done there.0 (c.begins_with.ensures.read.left.same ∙ there.1) (lines_back done (all_lines c.args.known.now)) (ap length c.whole_lines.ensures));
      stands = c.in_ok-after.ensures;
      is_wanted = c.find_wanted.ensures [] (wanted_none c.args.wanted c.is_none.result c.is_none.ensures);
    }
