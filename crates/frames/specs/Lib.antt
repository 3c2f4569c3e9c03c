pub mod Pieces
pub mod Longer
pub mod Lines
pub mod PieceSizes
pub mod Countings
