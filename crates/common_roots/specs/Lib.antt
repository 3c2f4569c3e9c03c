pub mod Divisions
pub mod Kept
pub mod DividedTimes
pub mod Amended
