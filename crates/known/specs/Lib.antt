pub mod SheetFits
