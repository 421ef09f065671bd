pub mod Movement
pub mod Kept
