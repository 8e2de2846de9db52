pub mod Fields
pub mod Parts
pub mod Bytes
pub mod Nans
