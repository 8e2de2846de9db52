-- The facts, by what they are about.
pub mod Truth
pub mod Wholes
pub mod Lists
