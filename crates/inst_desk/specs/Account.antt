-- What a hand did at its desk, and what that says of the jobs there. Jobs, hands and parts of a
-- desk are a choice of this hub.
use Rattle.std.specs.Prelude.{◌≡◌, ℕ, ◌-◌, ◌^◌, min, List, [], ◌∷◌, ◌++◌, length, sum_by}
use Rattle.inst_desk.specs.declared.account.Account.{Account}
use Rattle.inst_desk.specs.declared.job.Job.{Job}
use Rattle.inst_desk.specs.declared.desk.opening.TheConstants.{MOST_HANDS}

-- Two lists have the same jobs, each as often, in any order: every weighting of jobs gives both the
-- same sum. A weight of 1 for one job and 0 for all others counts that job.
abbrev pub EachAsOften : List Job → List Job → Type 0
EachAsOften xs ys = (weight : Job → ℕ) → sum_by weight xs ≡ sum_by weight ys

-- The jobs of all of these.
abbrev pub all_of : {X : Type 0} → (X → List Job) → List X → List Job
all_of f [] = []
all_of f (x ∷ xs) = f x ++ all_of f xs

-- The number of jobs, at most 2^64 - 1.
abbrev pub counted : List Job → ℕ
counted jobs = min (length jobs) (2 ^ 64 - 1)

-- A hand with these parts that put and took these jobs.
abbrev pub account : ℕ → List Job → List Job → Account
account parts put taken = record { parts = parts; put = put; taken = taken }

-- The first hand: it has all parts.
abbrev pub first_account : Account
first_account = account MOST_HANDS [] []

-- These jobs can be on the desk at a moment, given what this hand did until then.
-- - others: what all other hands did until then.
-- - alone: if this hand has all parts, no other did anything.
-- - even: the jobs put are the jobs taken and these, each as often.
pub record MayLie (v : Account) (jobs : List Job) : Type 0 where
  pub others : Account
  pub alone : v.parts ≡ MOST_HANDS → (others.put ≡ []) × (others.taken ≡ [])
  pub even : EachAsOften (v.put ++ others.put) ((v.taken ++ others.taken) ++ jobs)

-- The job was first on the desk at a moment.
abbrev pub LiesFirst : Account → Job → Type 0
LiesFirst v job = (rest : List Job) × MayLie v (job ∷ rest)
