pub mod Closing
pub mod NextOpening
pub mod Stepping
