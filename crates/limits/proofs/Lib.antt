mod Bounds
pub mod Lengths
mod Examples
