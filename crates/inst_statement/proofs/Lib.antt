pub mod AmountAndTermsInHistory
pub mod Tables
pub mod KeptLines
pub mod Indices
pub mod LinesSoFar
pub mod Movements
pub mod KeptStatementStaysRight
pub mod WalkAtEachFront
