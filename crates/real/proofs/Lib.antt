-- The laws of the words of f64 that other proofs cite.
pub mod CutLaws
pub mod Bounds
pub mod Powers
pub mod Finite
mod Wholes
pub mod Patterns
pub mod Order
