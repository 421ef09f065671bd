pub mod Answering
pub mod Session
