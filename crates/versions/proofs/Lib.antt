pub mod Lengths
pub mod Lists
