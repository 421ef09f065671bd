pub mod OriginatorTellsOfPlace
pub mod CopiesOfBooks
pub mod BooksCarryWhatHubCarried
pub mod RemainsOfClosingHub
pub mod NextHubFromCopies
pub mod PositionSumsAreSmall
pub mod StepsExplainCopiedBooks
