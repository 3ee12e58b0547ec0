pub mod Fronts
pub mod Means
pub mod Words
