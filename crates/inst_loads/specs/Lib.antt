pub mod Jobs
pub mod Done
pub mod Tellers
