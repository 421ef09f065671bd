pub mod Ends
pub mod Summing
