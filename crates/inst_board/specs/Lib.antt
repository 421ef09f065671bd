-- Public contracts cite these.
pub mod Wish
pub mod Standing
pub mod Learning
pub mod Plain
pub mod Laws
-- Only inner functions and proofs cite these.
pub mod inner
