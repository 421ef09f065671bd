pub mod LineHub
pub mod HeldHub
pub mod Chosen
pub mod Calls
