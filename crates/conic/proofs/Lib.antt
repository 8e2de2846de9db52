-- What the conic formulas come to.
pub mod Mirrored
