pub mod Joined
pub mod Read
pub mod Retold
pub mod TwoLines
pub mod Session
