-- The laws that the proofs of this crate share.
pub mod Lengths
pub mod Steps
