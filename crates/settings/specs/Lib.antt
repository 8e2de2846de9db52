pub mod Allowed
pub mod Layout
pub mod History
