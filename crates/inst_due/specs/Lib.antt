-- Public contracts cite these.
pub mod Due
-- Only inner functions and proofs cite these.
pub mod inner
