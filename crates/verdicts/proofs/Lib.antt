-- Laws that belong to no one function.
pub mod CoreLaws
pub mod LaidLaws
pub mod LaidRunLaws
pub mod BusyClimbLaws
pub mod ReleaseSumLaws
pub mod MostFittingLaws
pub mod HuntLaws
pub mod AskLaws
