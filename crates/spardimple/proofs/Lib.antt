-- Laws that belong to no one function.
pub mod HoldingLaws
pub mod ByteLaws
pub mod NumberLaws
pub mod SheetLaws
pub mod WhySteps
pub mod LentLaws
pub mod PaperLaws
pub mod JudgedLaws
pub mod HeldPlans
pub mod Agreement
pub mod RefusalLaws
pub mod WhyLaws
pub mod DiffLaws
pub mod StepLaws
pub mod WhyHeld
pub mod DiffHeld
pub mod Promises
