pub mod Mark
pub mod Unmarked
