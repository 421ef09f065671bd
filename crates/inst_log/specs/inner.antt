pub mod Layout
pub mod Opening
pub mod Repair
pub mod Serving
