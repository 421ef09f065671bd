pub mod BoardsAndTellersOfNewHub
pub mod CallUnderLock
pub mod SweepUnderLock
pub mod BoardOfReopenedHub
pub mod JoinedSeatsOfTellers
pub mod HubPartsFromLocks
pub mod CarriedHistoryStays
