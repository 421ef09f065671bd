-- Public contracts cite these.
pub mod Someones
pub mod KeptLine
pub mod KeptStatement
-- Only inner functions and proofs cite these.
pub mod inner
