pub mod Bytes
pub mod EightOctets
pub mod Hexadecimal
pub mod LaneLemmas
pub mod SixteenDigits
