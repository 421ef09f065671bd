pub mod NextOpening
pub mod Closing
