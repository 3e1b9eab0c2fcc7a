pub mod Growth
pub mod VisitReady
pub mod Loop
