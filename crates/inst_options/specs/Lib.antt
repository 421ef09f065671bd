-- Cited by public contracts.
pub mod CommandLine
pub mod Options
pub mod Changes
pub mod BadOptions
pub mod Asking
pub mod Rows
pub mod LogFault
pub mod AnyFault
pub mod Excerpt
-- Cited only by private functions and proofs.
pub mod inner
