pub mod Successive
pub mod RecordMeaning
pub mod Explained
pub mod RecordPromises
