-- How the code goes about it: no part of document 01, and nothing that a reader of the promises has to believe. The contracts of the functions
-- inside the crate cite it.
pub mod PlacedArray
pub mod WalkGoing
