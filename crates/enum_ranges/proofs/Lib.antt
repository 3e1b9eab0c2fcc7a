pub mod Pairs
pub mod Sorts
pub mod Stable
pub mod Laws
pub mod Ascending
