pub mod Counts
pub mod Cuts
pub mod Pairs
pub mod Writes
