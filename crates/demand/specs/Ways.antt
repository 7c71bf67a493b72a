-- What no promise rests on: how the code of `demand`, `verdicts` and `splits` keeps its numbers within 64 bits, and the split as they look at it.
pub mod Ranges
pub mod ChargedSplit
