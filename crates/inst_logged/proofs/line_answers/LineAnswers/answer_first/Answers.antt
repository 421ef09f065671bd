use Rattle.std.proofs.Common.{◌≡◌, ◌-◌, ◌+◌, ℕ, List, [], ◌∷◌, ◌++◌, length, take, drop, refl, ap, sym, ◌∙◌, arith}
use Rattle.std.proofs.lemmas.List.{take_rest, length-drop}
use Rattle.inst_log.specs.Layout.{recovered_lines}
use Rattle.inst_chain.specs.Chain.{said}
use Rattle.inst_logged.proofs.AnswersToLogLines.{answers_none, front_next}
use Rattle.inst_logged.proofs.BatchAfterRead.{suffix_more}
use Rattle.inst_logged.proofs.line_answers.LineAnswers.answer_first.Goals as goal

pub loop-len-init : goal.loop-len-init
loop-len-init c =
    let lines = c.args.lines.now in
    let none : length lines - length lines ≡ 0 = omega arith in
    record {
      front = (record { done = []; split = refl; answered = answers_none c.args.self.now.mode c.args.self.now.runner c.args.out.now.items }, omega arith);
      mode = refl;
      within = omega arith;
      suffix = ap (λ (n : ℕ). drop n lines) none;
    }

pub loop-len-preserved : goal.loop-len-preserved
loop-len-preserved c =
    let i = c.loop-len.invariant in
    let old = c.args.self.now in
    let rest = c.loop-len.rest.now in
    let n = c.in-Some.len in
    let one : (c.loop-len.left - c.in_ok-left.field-0) + length (said (take (n - 1) rest ∷ [])) ≡ c.loop-len.left =
    omega (arith, c.in_ok-left.ensures.count, c.in_ok-left.ensures.most, c.if-left-eq0.false) in
    rw take_rest (record {
      front = front_next old.mode c.loop-len.self.mode old.runner c.loop-len.self.runner c.answer_raw.new.self.runner c.args.out.now.items c.loop-len.out.items
          c.answer_raw.new.out.items c.args.lines.now rest n c.loop-len.left (c.loop-len.left - c.in_ok-left.field-0) c.args.count i.mode i.front c.in-Some.ensures c.in_ok-left.ensures.ok one;
      mode = c.answer_raw.ensures.mode ∙ i.mode;
      within = omega (arith, i.within, length-drop n rest);
      suffix = suffix_more c.args.lines.now rest n i.suffix i.within c.in-Some.ensures.within;
    })

pub returns-then-left-eq0-clause-ok : goal.returns-then-left-eq0-clause-ok
returns-then-left-eq0-clause-ok c =
    let i = c.loop-len.invariant in
    record {
      done = i.front.0.done;
      within = omega arith;
      split = sym i.front.0.split ∙ ap (λ (l : List ℕ). i.front.0.done ++ recovered_lines l) (sym i.suffix);
      few = omega (arith, i.front.1);
      left_is = omega (arith, i.front.1, c.if-left-eq0.true);
      full = λ some. absurd (omega (arith, some));
      answered = i.front.0.answered;
    }

pub returns-clause-ok : goal.returns-clause-ok
returns-clause-ok c =
    let i = c.loop-len.invariant in
    record {
      done = i.front.0.done;
      within = omega arith;
      split = sym i.front.0.split ∙ ap (λ (l : List ℕ). i.front.0.done ++ recovered_lines l) (sym i.suffix);
      few = omega (arith, i.front.1);
      left_is = omega (arith, i.front.1);
      full = λ _. ap recovered_lines i.suffix ∙ c.in_default.ensures;
      answered = i.front.0.answered;
    }
