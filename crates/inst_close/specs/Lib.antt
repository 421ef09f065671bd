-- Public contracts cite these.
pub mod ClosedHub
pub mod NextOpening
pub mod Closing
-- Only inner functions and proofs cite these.
pub mod inner
