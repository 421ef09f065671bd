pub mod Opening
pub mod Calls
pub mod NextOpening
pub mod Closing
