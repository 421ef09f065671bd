pub mod Auditing
pub mod Changing
pub mod Carrying
pub mod ExitReason
pub mod Drilling
pub mod Finding
pub mod Showing
pub mod Visiting
