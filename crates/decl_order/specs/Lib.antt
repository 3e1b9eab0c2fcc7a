pub mod Contract
pub mod Bytes
