-- What the contracts of `task` cite.
pub mod Names
pub mod Tasks
pub mod Faults
pub mod Refusals
