-- Laws that belong to no one function: those of the code, then those of demand 3, bottom up.
pub mod ListLaws
pub mod EditLaws
pub mod NameSets
pub mod HeldLaws
pub mod FaultLaws
pub mod AnswerLaws
pub mod SettledLaws
pub mod Theorems
pub mod HeldMeaning
pub mod HeldTheorems
pub mod RefusalLaws
pub mod Examples
pub mod Worked
