-- Public contracts cite these.
pub mod LockLaw
pub mod Answers
pub mod Telling
pub mod Following
pub mod Serving
pub mod Told
pub mod Sweeping
pub mod Together
pub mod Wider
pub mod InTheBooks
pub mod Settling
pub mod Parts
pub mod Apart
pub mod Uniting
-- Only inner functions and proofs cite these.
pub mod inner
