-- Definitions that public contracts cite.
pub mod Events
pub mod Reading
pub mod Books
pub mod Laws
pub mod Tally
-- Definitions that only private functions and proofs cite.
pub mod inner
pub mod Positions
