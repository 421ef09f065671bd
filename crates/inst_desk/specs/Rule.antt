-- The rule that holds of a desk and of all its hands between any two steps. That no job is lost is
-- a choice of this hub.
use Rattle.std.specs.Prelude.{◌≡◌, ℕ, List, [], ◌++◌, sum_by}
use mathlib.Core.Option.{some}
use lib.ListN.{get_elem?}
use Rattle.inst_desk.specs.declared.account.Account.{Account}
use Rattle.inst_desk.specs.declared.job.Job.{Job}
use Rattle.inst_desk.specs.Account.{EachAsOften, all_of}
use Rattle.inst_desk.specs.declared.desk.opening.TheConstants.{MOST_HANDS}

-- The rule of a desk.
-- - dealt: all hands together have all parts.
-- - idle: a hand without parts did nothing.
-- - even: the jobs put are the jobs taken and those on the desk, each as often.
pub record IsTallied (jobs : List Job) (views : List Account) : Type 0 where
  pub dealt : sum_by (λ v. v.parts) views ≡ MOST_HANDS
  pub idle : (id : ℕ) (v : Account) → get_elem? views id ≡ some v → v.parts ≡ 0 →
      (v.put ≡ []) × (v.taken ≡ [])
  pub even : EachAsOften (all_of (λ v. v.put) views) (all_of (λ v. v.taken) views ++ jobs)
