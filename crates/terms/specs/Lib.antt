pub mod References
pub mod Refusals
pub mod Windows
