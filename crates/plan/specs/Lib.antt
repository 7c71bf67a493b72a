-- What a plan is, in document 01's order; then what the theorems about a plan speak of; and in `ways` how the code goes about it.
pub mod Sizes
pub mod Walk
pub mod Layout
pub mod Reply
pub mod Plan
pub mod Refusals
pub mod Places
pub mod Shows
pub mod Ways
