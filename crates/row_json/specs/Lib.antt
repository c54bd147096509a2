pub mod ToldRows
pub mod ReplyWords
pub mod RowObjects
pub mod LastRows
pub mod RowLaws
