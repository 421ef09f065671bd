-- Definitions that public contracts cite.
pub mod FollowUps
pub mod Resting
pub mod Agenda
pub mod Watching
-- Definitions that only private functions and proofs cite.
pub mod inner
