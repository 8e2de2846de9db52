pub mod Versions
pub mod Cases
pub mod Allows
pub mod Backs
pub mod Wholes
pub mod Laws
pub mod Sessions
