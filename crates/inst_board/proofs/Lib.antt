pub mod Places
pub mod PlainSteps
pub mod DecisionsStay
pub mod PromisesExactOnPlainBoard
pub mod KnowledgeOfHolders
pub mod FactsOfOneStandingAgree
