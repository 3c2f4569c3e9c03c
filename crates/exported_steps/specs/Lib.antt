pub mod StateNumbers
pub mod StepNumbers
