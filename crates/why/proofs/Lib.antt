pub mod Order
pub mod Stops
pub mod Laws
