pub mod References
pub mod Transfers
pub mod Kept
pub mod Beside
