pub mod ColumnWidths
pub mod LineTextIsLatin
pub mod LineTextTellsLine
pub mod CommandsAndStepsThatFit
