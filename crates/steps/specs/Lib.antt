pub mod Budgets
pub mod HeldCalls
pub mod SoundStates
pub mod BudgetParts
pub mod Handed
pub mod Moving
pub mod StepCalls
pub mod SmallSteps
