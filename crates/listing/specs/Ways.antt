-- What no promise rests on: how the pieces of a core, and those of two plans, lie in arrays while they are written.
pub mod SeatArrays
pub mod RankArrays
