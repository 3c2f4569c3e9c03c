pub mod Tokens
pub mod Fields
pub mod Straight
pub mod WrittenNumbers
pub mod Exact
pub mod Windows
pub mod Words
