-- What the contracts of `sheet` cite.
pub mod Sheet
pub mod Fitted
pub mod Refusals
pub mod Ways
