pub mod Changes
pub mod StoreChanges
pub mod StoreCombinations
