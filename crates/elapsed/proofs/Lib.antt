pub mod Raised
pub mod Signs
