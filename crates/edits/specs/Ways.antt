-- How the code goes about it: no part of document 01, and nothing that a reader of the promises has to believe.
pub mod ListInArray
