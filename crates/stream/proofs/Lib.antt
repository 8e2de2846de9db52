pub mod Cut
pub mod Whole
pub mod Parts
pub mod Steps
pub mod Opens
pub mod Calls
pub mod Places
pub mod Examples
