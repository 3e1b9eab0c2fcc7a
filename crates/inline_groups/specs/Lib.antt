pub mod Inlinings
