pub mod Cases
pub mod Parts
