pub mod Distinct
pub mod Hex
pub mod Lines
