-- The error of a hub with a log for an error of its chain.
use Rattle.inst_chain.specs.declared.error.ChainError.{ChainError}
use Rattle.inst_chain.specs.declared.error.ChainError.TheVariants as chain
use Rattle.inst_logged.specs.declared.error.LoggedError.{LoggedError}
use Rattle.inst_logged.specs.declared.error.LoggedError.TheVariants.{Log, Damaged}

-- The same error, as a `LoggedError`.
abbrev pub of_chain : ChainError → LoggedError
of_chain (chain.Log error) = Log error
of_chain (chain.Damaged right) = Damaged right
