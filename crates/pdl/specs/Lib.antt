pub mod Numbers
pub mod Outputs
