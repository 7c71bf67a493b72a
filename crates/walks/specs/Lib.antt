-- What a walk is, what every walk's plan is, and what an edit keeps of it, whichever walk it is; then C=D as one.
pub mod Lists
pub mod Order
pub mod Way
pub mod Shares
pub mod Edits
pub mod Kept
pub mod Halves
pub mod Worked
