pub mod Surroundings
