pub mod ListsOfAccounts
pub mod StepsKeepDeskRule
pub mod HandWithAllParts
pub mod Hands
