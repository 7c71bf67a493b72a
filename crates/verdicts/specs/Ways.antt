-- What no promise rests on.
pub mod Runs
pub mod BusyClimb
pub mod ReleaseSums
pub mod ChargeWalk
pub mod SlackHunt
