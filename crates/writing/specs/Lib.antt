pub mod GivenLines
pub mod LineLengths
pub mod Records
pub mod SheetBytes
pub mod Writer
pub mod WriterChecks
