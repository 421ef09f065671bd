-- Public contracts cite these.
pub mod Plan
pub mod Report
pub mod Drilled
-- Only inner functions and proofs cite these.
pub mod inner
