pub mod Counts
pub mod Digits
pub mod Formats
pub mod Meaning
pub mod Lawfuls
pub mod Joins
pub mod Places
pub mod Same
