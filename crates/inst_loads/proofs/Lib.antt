mod DoneJobs
pub mod Jobs
mod BoardOfNewParticipant
mod Tellers
