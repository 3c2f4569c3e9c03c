pub mod Faults
pub mod Answers
pub mod WorkStores
pub mod CopiedLines
pub mod ClearedRecords
