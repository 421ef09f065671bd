-- How each step of a hand changes its account.
use Rattle.std.specs.Prelude.{◌+◌, ◌-◌, [], ◌∷◌, ◌++◌}
use Rattle.inst_desk.specs.declared.account.Account.{Account}
use Rattle.inst_desk.specs.declared.job.Job.{Job}
use Rattle.inst_desk.specs.Account.{account}

-- The account after the job was put.
abbrev pub with_put : Account → Job → Account
with_put v job = account v.parts (v.put ++ job ∷ []) v.taken

-- The account after the job was taken.
abbrev pub with_taken : Account → Job → Account
with_taken v job = account v.parts v.put (v.taken ++ job ∷ [])

-- The account of a new hand that was split off.
abbrev pub one_part : Account → Account
one_part v = account 1 [] []

-- The account of the old hand after the split.
abbrev pub less_one_part : Account → Account
less_one_part v = account (v.parts - 1) v.put v.taken

-- The account of two hands joined into one.
abbrev pub together : Account → Account → Account
together v w = account (v.parts + w.parts) (v.put ++ w.put) (v.taken ++ w.taken)

-- The account of a hand that was joined into another.
abbrev pub no_account : Account
no_account = account 0 [] []
