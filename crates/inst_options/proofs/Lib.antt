pub mod OptionTextsAndNumbers
pub mod OptionsOfLog
pub mod OptionsWithoutSettings
pub mod Ranges
pub mod FaultNames
