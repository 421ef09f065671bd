pub mod Ask
pub mod Step
pub mod Deciding
pub mod LineText
pub mod Layout
pub mod Laws
pub mod Refusals
pub mod Fitting
