-- What rows 1 to 5 say of their inputs.
pub mod Components
pub mod Inputs
