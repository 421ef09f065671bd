pub mod Chains
mod ProgressOfChecker
mod Digests
pub mod BatchBehindChain
pub mod LinesWithoutMarks
mod SummaryOfLines
mod PlaceOfDamage
pub mod DigestsAreHexadecimal
