-- Cited by public contracts.
pub mod Bounds
pub mod Files
pub mod Logs
pub mod Keeping
pub mod Auditing
pub mod Script
pub mod Program
-- Cited only by private functions and proofs.
pub mod inner
