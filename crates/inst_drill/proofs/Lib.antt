pub mod TransferEnds
pub mod IdentifierOfNumber
pub mod CountOfOpenings
pub mod SeenStatesAreInBooks
pub mod StaffOfOpening
pub mod DrilledOpenings
