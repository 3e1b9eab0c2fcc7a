pub mod Expands
pub mod Totals
pub mod Loop
