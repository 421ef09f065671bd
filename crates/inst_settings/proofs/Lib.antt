pub mod CodeTellsNumber
pub mod CodesKnownByHolders
mod TextsThatAreNoCodes
