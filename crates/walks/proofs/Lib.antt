-- Laws that belong to no one function: lists and keys, the order, a walk, what every walk's plan is, what an edit keeps; then C=D's.
pub mod ListLaws
pub mod KeyLaws
pub mod OrderLaws
pub mod WayLaws
pub mod SoundLaws
pub mod TouchLaws
pub mod KeptLaws
pub mod EditLaws
pub mod DenserLaws
pub mod HalvesLaws
pub mod Worked
