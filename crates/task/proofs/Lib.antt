-- Laws that belong to no one function.
pub mod FaultLaws
pub mod SettledLaws
pub mod NameLaws
pub mod TaskLaws
pub mod RefusalLaws
