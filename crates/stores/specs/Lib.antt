pub mod Checks
pub mod Flat
pub mod LentParts
pub mod OverZeros
pub mod Validity
