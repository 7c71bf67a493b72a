pub mod BenchLaws
pub mod ChargeBoundLaws
pub mod MonotoneSearchLaws
pub mod SkipLaws
pub mod SplitSearchLaws
