-- Equality of keys, each of an originator and an identifier.
pub use Rattle.inst_transfers.specs.State.{same_key}
