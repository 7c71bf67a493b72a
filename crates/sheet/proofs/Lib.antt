-- Laws that belong to no one function.
pub mod FaultLaws
pub mod DraftLaws
pub mod ReadLaws
pub mod StandLaws
pub mod WholeLaws
pub mod ArrowLaws
pub mod RuleLaws
pub mod Examples
pub mod SmallLaws
pub mod EndLaws
pub mod StageLaws
pub mod RefusalLaws
pub mod SettledLaws
