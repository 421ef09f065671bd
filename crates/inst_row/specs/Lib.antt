pub mod Place
pub mod View
pub mod Rule
pub mod Steps
pub mod Seated
pub mod Row
pub mod Ended
