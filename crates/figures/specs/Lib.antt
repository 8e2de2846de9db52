pub mod Figures
pub mod Millionths
