pub mod Writes
pub mod Reads
pub mod Differentials
