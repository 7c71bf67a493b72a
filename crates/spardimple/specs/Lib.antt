-- What the contracts of `spardimple` cite.
pub mod Bytes
pub mod Numbers
pub mod Sheets
pub mod Whys
pub mod Diffs
pub mod Refusals
pub mod Spelling
pub mod Ways
