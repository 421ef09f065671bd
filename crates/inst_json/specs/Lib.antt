-- Definitions that public contracts cite.
pub mod Name
pub mod Refusals
pub mod Fields
pub mod Verb
pub mod Checks
pub mod Asker
pub mod Commands
pub mod Replies
pub mod Steps
pub mod Members
pub mod StepLines
pub mod Lines
pub mod Laws
pub mod LineFields
-- Definitions that only private functions and proofs cite.
pub mod inner
