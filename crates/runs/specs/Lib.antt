pub mod KeptRelations
pub mod TrailingLaws
pub mod CallLaws
pub mod Unreported
