pub mod Splits
pub mod Counts
