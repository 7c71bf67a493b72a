-- What no promise rests on.
pub mod Bench
pub mod MonotoneSearch
pub mod ChargeBounds
pub mod SplitSearch
