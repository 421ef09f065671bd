pub mod Indexed
pub mod Spots
pub mod Waiting
pub mod Answering
pub mod Resolutions
pub mod Expiries
pub mod Entering
