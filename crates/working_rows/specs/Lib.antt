pub mod Found
pub mod Working
pub mod Worked
pub mod Shifting
pub mod Mirroring
