-- What an edit answers, then what demand 3 speaks of, and figures of plans and edits worked out; in `ways` how the code goes about it.
pub mod Edits
pub mod Refusals
pub mod Kept
pub mod Worked
pub mod Ways
