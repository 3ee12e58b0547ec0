pub mod Rows
pub mod Totals
pub mod Writings
