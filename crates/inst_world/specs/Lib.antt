-- Definitions that public contracts cite.
pub mod HasRun
pub mod Places
pub mod Headline
pub mod NextOpening
-- Definitions that only private functions and proofs cite.
pub mod inner
