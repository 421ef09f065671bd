pub mod View
pub mod Rule
pub mod Steps
pub mod Held
pub mod Meeting
pub mod Opening
pub mod Seen
