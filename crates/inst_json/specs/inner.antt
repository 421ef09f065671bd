pub mod Refusals
pub mod Replies
pub mod Row
pub mod Lines
pub mod Scalar
pub mod Names
pub mod Begin
pub mod Spaces
