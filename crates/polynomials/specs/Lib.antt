pub mod Content
pub mod Shift
