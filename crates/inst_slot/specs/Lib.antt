-- Definitions that public contracts cite.
pub mod Book
pub mod LawfulBoard
pub mod Asking
pub mod Telling
pub mod Opening
pub mod Spots
pub mod OwnState
pub mod Waiting
pub mod Laws
pub mod Arrived
-- Definitions that only private functions and proofs cite.
pub mod inner
