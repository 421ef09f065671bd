pub mod Base128
pub mod Identifiers
pub mod Reasons
pub mod WordsOfRejections
pub mod OrderOfLawfulWords
pub mod WordsTellValuesApart
