mod Endings
mod Simple
