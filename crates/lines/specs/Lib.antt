-- What the contracts of `lines` cite.
pub mod Lines
pub mod Forms
pub mod Says
pub mod Orders
