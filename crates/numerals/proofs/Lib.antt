pub mod Values
pub mod Signs
pub mod Decimals
pub mod Nearest
pub mod Examples
