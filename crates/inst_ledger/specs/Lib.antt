-- Definitions that public contracts cite.
pub mod References
pub mod Kept
pub mod Right
pub mod Inbox
pub mod Beside
pub mod Book
pub mod Beneficiary
-- Definitions that only private functions and proofs cite.
pub mod inner
