-- Cited by public contracts.
pub mod Answering
pub mod LineAnswers
pub mod Header
pub mod LogHeader
pub mod Finding
pub mod Input
pub mod Intake
pub mod Logged
pub mod Marking
pub mod NewHub
pub mod Refused
pub mod Running
pub mod Closing
pub mod Streams
-- Cited only by private functions and proofs.
pub mod inner
