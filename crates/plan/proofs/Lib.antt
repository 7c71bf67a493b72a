-- Laws that belong to no one function: the plan's own, then those of the arrays and the steps of the walk's code, then what is known of a plan.
pub mod Lists
pub mod Ones
pub mod OrderLaws
pub mod WalkLaws
pub mod LayoutLaws
pub mod OverLaws
pub mod PlanLaws
pub mod GoingLaws
pub mod JudgeLaws
pub mod PlaceLaws
pub mod RankLaws
pub mod ShowLaws
pub mod WordLaws
pub mod Theorems
pub mod ReplyLaws
pub mod SettledLaws
pub mod RefusalLaws
