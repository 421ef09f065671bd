-- Public contracts cite these.
pub mod Identifier
pub mod Reason
pub mod Terms
pub mod Word
pub mod WordLaw
pub mod Laws
pub mod Rows
-- Only inner functions and proofs cite these.
pub mod inner
