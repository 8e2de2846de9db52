pub mod Places
pub mod Sizes
pub mod Lengths
pub mod Examples
