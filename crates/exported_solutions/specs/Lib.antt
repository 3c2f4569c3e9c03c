pub mod SolutionNumbers
