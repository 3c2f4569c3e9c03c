pub mod Listed
pub mod Substituted
pub mod Bounds
pub mod BackSubstitution
pub mod ListRows
