pub mod Asking
pub mod Books
pub mod Lending
pub mod Saying
