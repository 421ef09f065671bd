use Rattle.std.proofs.Common.{List, ℕ, rules, tests}
use Rattle.std.proofs.lemmas.Iterator.{YieldsList-from_slice}
use Rattle.std.proofs.lemmas.Iterator.Search.{position_from_yields_List}
use Rattle.inst_settings.specs.Settings.{same_text}
use Rattle.inst_settings.proofs.codes.index_of.Goals as goal

pub returns : goal.returns
returns c =
    let codes : List (List ℕ) = c.args.codes.now in
    position_from_yields_List (same_text c.args.code.now) _ _ _ c.position.ensures.ran (YieldsList-from_slice codes (cc)) (λ x b q k. search (rules, tests))
