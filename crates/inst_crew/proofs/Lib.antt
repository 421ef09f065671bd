pub mod StatesSeenByWorker
pub mod OneMoreServedJob
pub mod OneMoreTakenJob
pub mod PairsOfWorkersAndShifts
pub mod GatheredShifts
pub mod WorkOfCrew
pub mod LastHand
