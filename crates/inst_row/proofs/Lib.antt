pub mod Tally
pub mod Locks
pub mod HistoriesSeenBySeats
pub mod SeenHistoryStaysSeen
