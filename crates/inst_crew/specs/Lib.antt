-- Public contracts cite these.
pub mod Later
pub mod Seen
pub mod Served
pub mod Crew
-- Only inner functions and proofs cite these.
pub mod inner
