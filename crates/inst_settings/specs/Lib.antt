-- Public contracts cite these.
pub mod Settings
pub mod Lawful
pub mod Codes
pub mod Finder
pub mod Parts
-- Only inner functions and proofs cite these.
pub mod inner
