pub mod EliminatedLimits
pub mod Eliminated
pub mod Pairing
pub mod KernelKept
pub mod SoundRows
pub mod RowWork
pub mod MatrixTurns
