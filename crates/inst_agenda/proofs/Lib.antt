pub mod Agendas
pub mod PlacesToGoOverNext
pub mod StepsAfterLine
pub mod TransfersAtRest
pub mod UnkeptAskDecidesNothing
pub mod AgendaAfterAsk
pub mod SkippedPlacesAreAtRest
pub mod TransferGoneOver
