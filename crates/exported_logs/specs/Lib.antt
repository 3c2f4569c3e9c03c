pub mod LogNumbers
