pub mod ShortText
