pub mod Identifier
pub mod Reason
