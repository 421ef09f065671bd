pub mod Plan
pub mod Staff
pub mod Report
pub mod Chain
