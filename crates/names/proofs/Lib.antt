mod Shared
pub mod Lengths
