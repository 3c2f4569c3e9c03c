pub mod Divisions
pub mod Counts
