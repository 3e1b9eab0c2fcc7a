pub mod Known
pub mod Fields
pub mod Measures
