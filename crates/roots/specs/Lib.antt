pub mod Ascending
pub mod Bound
pub mod Factors
pub mod RootSearch
