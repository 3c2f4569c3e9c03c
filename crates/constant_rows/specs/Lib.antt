pub mod ListLengths
pub mod RowLimits
pub mod RowCounts
pub mod Constants
pub mod Matrices
pub mod ConstantStores
