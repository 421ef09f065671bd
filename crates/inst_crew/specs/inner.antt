pub mod Seen
pub mod Workers
