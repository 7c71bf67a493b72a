-- Laws that belong to no one function.
pub mod LineLaws
pub mod FieldLaws
pub mod FormLaws
pub mod SaysLaws
pub mod MeansLaws
pub mod LongLaws
pub mod SettledLaws
