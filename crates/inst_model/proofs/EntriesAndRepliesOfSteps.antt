-- At most one entry is seen of a step, and the replies are in the trace.
use Rattle.std.proofs.Common.{◌≡◌, ℕ, ◌≤◌, Bool, true, false, cond, eqb, List, [], ◌∷◌, ◌++◌, length, reverse, refl, sym, ap, ◌∙◌, arith, length-append}
use Rattle.std.proofs.lemmas.List.{reverse-append, length-reverse}
use Rattle.inst_model.specs.Opening.{Opening}
use Rattle.inst_settings.specs.Settings.{HubSettings}
use Rattle.inst_command.specs.declared.reply.Answer.{Answer}
use Rattle.inst_command.specs.declared.step.Step.{Step}
use Rattle.inst_command.specs.declared.step.Step.TheVariants.{Ask, Deliver, Learn, Expire}
use Rattle.inst_model.specs.Trace.{answer, own_answer, trace, replies, own_answers}
use Rattle.inst_model.specs.Hub.{outcome, history}
use Rattle.inst_model.specs.StepByStep.{AtMostOneEntryIsSeen, RepliesAreInTheTrace}
use Rattle.inst_model.proofs.Steps.{sees_cases}

pub at_most_one_entry_is_seen : AtMostOneEntryIsSeen
at_most_one_entry_is_seen s O step past p = sees_cases s (history s O past) (outcome s O past) step p (λ v. length v ≤ 1) (record {
  nothing = omega arith;
  asked = λ ask is who. omega arith;
  came = λ from index x is why. omega arith;
  told = λ from index x o why. omega arith;
})

kept_or_not : (b : Bool) (a : Answer) (xs ys : List Answer) → cond b (a ∷ (xs ++ ys)) (xs ++ ys) ≡ cond b (a ∷ xs) xs ++ ys
kept_or_not true a xs ys = refl
kept_or_not false a xs ys = refl

own_answers-append : (p : ℕ) (steps more : List Step) (answers later : List Answer) → length answers ≡ length steps → own_answers p (steps ++ more) (answers ++ later) ≡ own_answers p steps answers ++ own_answers p more later
own_answers-append p [] more [] later same = refl
own_answers-append p [] more (a ∷ answers) later same = absurd (omega arith)
own_answers-append p (step ∷ steps) more [] later same = absurd (omega arith)
own_answers-append p (Ask ask ∷ steps) more (a ∷ answers) later same =
    ap (λ rest. cond (eqb ask.who p) (a ∷ rest) rest) (own_answers-append p steps more answers later (omega arith))
    ∙ kept_or_not (eqb ask.who p) a (own_answers p steps answers) (own_answers p more later)
own_answers-append p (Deliver from index to ∷ steps) more (a ∷ answers) later same = own_answers-append p steps more answers later (omega arith)
own_answers-append p (Learn who from index ∷ steps) more (a ∷ answers) later same = own_answers-append p steps more answers later (omega arith)
own_answers-append p (Expire who index at ∷ steps) more (a ∷ answers) later same = own_answers-append p steps more answers later (omega arith)

own_one : (s : HubSettings) (O : Opening) (past : List Step) (step : Step) (p : ℕ) → own_answers p (step ∷ []) (answer s O past step ∷ []) ≡ own_answer s O past step p
own_one s O past (Ask ask) p = refl
own_one s O past (Deliver from index to) p = refl
own_one s O past (Learn who from index) p = refl
own_one s O past (Expire who index at) p = refl

trace-length : (s : HubSettings) (O : Opening) (L : List Step) → length (trace s O L) ≡ length L
trace-length s O [] = refl
trace-length s O (step ∷ past) = omega (arith, length-append (trace s O past) (answer s O past step ∷ []), trace-length s O past)

own_trace : (s : HubSettings) (O : Opening) (L : List Step) (p : ℕ) → own_answers p (reverse L) (trace s O L) ≡ replies s O L p
own_trace s O [] p = refl
own_trace s O (step ∷ past) p =
    ap (λ steps. own_answers p steps (trace s O past ++ answer s O past step ∷ [])) (reverse-append (step ∷ []) past)
    ∙ own_answers-append p (reverse past) (step ∷ []) (trace s O past) (answer s O past step ∷ []) (trace-length s O past ∙ sym (length-reverse past))
    ∙ ap (λ front. front ++ own_answers p (step ∷ []) (answer s O past step ∷ [])) (own_trace s O past p)
    ∙ ap (λ last. replies s O past p ++ last) (own_one s O past step p)

pub replies_are_in_the_trace : RepliesAreInTheTrace
replies_are_in_the_trace s O L p = (trace-length s O L, own_trace s O L p)
