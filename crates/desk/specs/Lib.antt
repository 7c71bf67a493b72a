-- What the contracts of `desk` cite; then a script as its lines.
pub mod Desk
pub mod Script
