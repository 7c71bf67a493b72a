-- What the contracts of `demand`, `verdicts` and `splits` cite, in document 01's order: what a reader has to believe. `ways` has what only says how the code goes.
pub mod Lists
pub mod Tables
pub mod Sizes
pub mod Kinds
pub mod Charge
pub mod Demand
pub mod Busy
pub mod Verdict
pub mod Why
pub mod Split
pub mod Answer
pub mod Refusals
pub mod Records
pub mod Cases
pub mod Worked
pub mod Ways
