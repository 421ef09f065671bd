pub mod TextsAreAscii
pub mod TextBeforeZeros
pub mod Lists
pub mod Masks
pub mod LineEndBySearch
pub mod Streams
