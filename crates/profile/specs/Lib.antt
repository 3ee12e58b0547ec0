pub mod Laws
pub mod Rows
pub mod Views
pub mod Wire
