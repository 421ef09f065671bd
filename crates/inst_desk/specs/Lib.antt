-- Public contracts cite these.
pub mod Account
pub mod Rule
pub mod Desk
-- Only inner functions and proofs cite these.
pub mod inner
