pub mod Times
pub mod Runs
