-- What the contracts of `listing` cite; then what the theorems speak of.
pub mod Text
pub mod Listing
pub mod Papers
pub mod Why
pub mod ByteOrder
pub mod Diff
pub mod Placed
pub mod Ways
