pub mod ReplayWork
pub mod Given
pub mod Said
pub mod Replays
pub mod Endings
