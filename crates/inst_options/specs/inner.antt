pub mod CommandLine
pub mod Table
pub mod Options
pub mod Asking
pub mod BadOptions
