use Rattle.std.proofs.Common.{◌≡◌, ◌∙◌, ◌-◌, [], List, ℕ, length, take, drop, ap}
use Rattle.std.specs.Prelude.{bytes_eq}
use Rattle.std.proofs.lemmas.List.{take_rest}
use Rattle.inst_chain.specs.Chain.{mark_of}
use Rattle.inst_logged.proofs.BooksBehindFirstLine.{mark_there}
use Rattle.inst_logged.proofs.hub.finding.has_mark_at.Goals as goal

pub returns : goal.returns
returns c = λ rest is.
    let text = c.args.text.now in
    let front = take c.args.end text in
    let mark = mark_of front in
    let made : c.mark-mark.result ≡ mark = c.mark-mark.ensures.mark front (c.add.ensures [] c.new-marker.ensures) in
    c.starts_with.ensures.value
    ∙ ap (λ (m : List ℕ). bytes_eq m (take (length m) (take (length text - c.args.end) (drop c.args.end text)))) made
    ∙ ap (λ (l : List ℕ). bytes_eq mark (take (length mark) l)) (take_rest text c.args.end)
    ∙ mark_there text mark rest c.args.end c.requires is
