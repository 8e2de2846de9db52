pub mod Problems
pub mod Held
pub mod Stops
