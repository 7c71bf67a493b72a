-- What the contracts of `verdicts` cite beside the meaning in `demand`: a core laid out, and what is asked of it. `ways` has what only says how the code goes.
pub mod Cores
pub mod MostFitting
pub mod Laid
pub mod Asks
pub mod Ways
