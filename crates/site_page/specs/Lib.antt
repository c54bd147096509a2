pub mod PageAnswers
pub mod Connections
