pub mod Budgets
pub mod BudgetParts
pub mod MovingLemmas
pub mod HandedIn
pub mod StepCalls
pub mod SmallSteps
