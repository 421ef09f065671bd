use Rattle.std.proofs.Common.{arith}
use Rattle.inst_hub_tests.proofs.shared.locks.books.Goals as goal

pub take-first-requires-clause-lies : goal.take-first-requires-clause-lies
take-first-requires-clause-lies c = let v = c.take_apart-ended.ensures.values 0 (omega arith) in (v.0, v.1)

pub take-second-requires-clause-lies : goal.take-second-requires-clause-lies
take-second-requires-clause-lies c =
    let v = c.take_apart-ended.ensures.values 1 (omega arith) in
    (v.0, c.take-first.ensures.others.there 1 v.0 (λ one. absurd (omega (arith, one))) v.1)
