-- Public contracts cite these.
pub mod Fault
pub mod Cents
pub mod Moment
pub mod TimeLimit
pub mod Text
pub mod Newline
pub mod Handing
-- Only inner functions and proofs cite these.
pub mod inner
