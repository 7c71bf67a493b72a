-- What no promise rests on: what the reader holds above a line.
pub mod ReaderHolds
