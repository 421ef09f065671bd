mod Tally
mod RuleAfterStep
pub mod KnowledgeOfOneStanding
mod RuleAllowsEachStep
mod Numbers
mod KnowledgeAfterStep
mod FactsLearntFromStep
mod TwoBoardsThatMeet
pub mod BoardsAtOpening
mod StateShownByLook
