pub mod Lent
pub mod StoreStates
pub mod Relations
pub mod MirrorLaws
pub mod FurthestRoots
pub mod ReportLaws
