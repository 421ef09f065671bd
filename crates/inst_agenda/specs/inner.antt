pub mod Agenda
pub mod Naming
pub mod Watching
