-- Definitions that public contracts cite.
pub mod State
pub mod Held
-- Definitions that only private functions and proofs cite.
pub mod inner
