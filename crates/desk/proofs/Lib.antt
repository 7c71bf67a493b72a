-- Laws that belong to no one function.
pub mod DeskLaws
pub mod LineLaws
pub mod Theorems
