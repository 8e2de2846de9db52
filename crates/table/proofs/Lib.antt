-- The laws of a list of tests.
pub mod Laws
