-- What the steps on the way to an answer promise: no meaning of its own.
pub mod Steps
