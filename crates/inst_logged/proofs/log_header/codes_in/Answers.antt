use Rattle.std.proofs.Common.{◌≡◌, ◌∷◌, ◌+◌, [], List, ℕ, Some, drop, ap, sym, subst, ◌∙◌}
use Rattle.std.proofs.lemmas.List.{drop_more, drop_all}
use Rattle.serde_json.specs.declared.value.Value.{Value}
use Rattle.inst_logged.proofs.FirstLine.{CodesLeft, all_left, none_read, one_read, all_read}
use Rattle.inst_logged.proofs.log_header.codes_in.Goals as goal

pub loop-value-init : goal.loop-value-init
loop-value-init c = λ named formed is.
    subst (λ (found : List (List ℕ)). CodesLeft named found c.args.listed.now) (sym c.new-codes.ensures.items) (all_left named c.args.listed.now formed is)

pub loop-value-preserved : goal.loop-value-preserved
loop-value-preserved c = λ named formed is.
    let listed = c.args.listed.now in
    let i = c.loop-value.value-index in
    let value = c.value-item.result in
    let here : drop i listed ≡ value ∷ drop (i + 1) listed = drop_more listed i value c.loop-value-test.true ∙ ap (λ (v : Value). v ∷ drop (i + 1) listed) (sym c.value-item.is) in
    let left = subst (CodesLeft named c.loop-value.codes.items) here (c.loop-value.invariant named formed is) in
    subst (λ (found : List (List ℕ)). CodesLeft named found (drop (i + 1) listed)) (sym c.in_ok-push-in-Some.ensures.items)
    (one_read named c.loop-value.codes.items value (drop (i + 1) listed) c.code_of.result c.in-Some.code left c.code_of.ensures c.in-Some.is)

pub returns : goal.returns
returns c = λ named formed is.
    let none : drop c.loop-value.value-index c.args.listed.now ≡ [] = drop_all c.loop-value.value-index c.args.listed.now c.loop-value-test.false in
    ap (λ (l : List (List ℕ)). Some l) (all_read named c.loop-value.codes.items (subst (CodesLeft named c.loop-value.codes.items) none (c.loop-value.invariant named formed is)))

pub returns-in-None : goal.returns-in-None
returns-in-None c = λ named formed is.
    let listed = c.args.listed.now in
    let i = c.loop-value.value-index in
    let value = c.value-item.result in
    let here : drop i listed ≡ value ∷ drop (i + 1) listed = drop_more listed i value c.loop-value-test.true ∙ ap (λ (v : Value). v ∷ drop (i + 1) listed) (sym c.value-item.is) in
    let left = subst (CodesLeft named c.loop-value.codes.items) here (c.loop-value.invariant named formed is) in
    absurd (none_read named c.loop-value.codes.items value (drop (i + 1) listed) c.code_of.result left c.code_of.ensures c.in-None.is)
