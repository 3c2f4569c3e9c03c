pub mod LogStores
pub mod Own
pub mod Contents
pub mod OwnLines
pub mod LineLaws
pub mod LoggedSteps
