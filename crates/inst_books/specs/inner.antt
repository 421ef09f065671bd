pub mod Members
pub mod Events
pub mod Books
pub mod Agreeing
pub mod Replaying
pub mod Carrying
