-- Definitions that public contracts cite.
pub mod Limits
pub mod Lines
pub mod Answers
pub mod Answering
pub mod LineBuffer
pub mod Progress
pub mod Session
pub mod Headline
pub mod Check
-- Definitions that only private functions and proofs cite.
pub mod inner
