-- Cited by public contracts.
pub mod Chain
pub mod Checking
pub mod Verifying
pub mod Summing
-- Cited only by private functions and proofs.
pub mod inner
