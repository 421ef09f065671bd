-- Public contracts cite these.
pub mod Founding
pub mod Opening
pub mod Calls
pub mod Sweeping
pub mod NextOpening
pub mod Closing
-- Only inner functions and proofs cite these.
pub mod inner
