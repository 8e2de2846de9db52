pub mod Kinds
pub mod Limits
pub mod Layout
pub mod Decode
pub mod Offset
pub mod Read
