pub mod Combination
pub mod Primitive
pub mod Parts
pub mod Undivided
