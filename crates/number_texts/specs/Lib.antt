pub mod DigitPairs
pub mod Runs
pub mod TextBytes
pub mod Texts
