pub mod Stand
pub mod Puts
pub mod Decimals
pub mod Signs
pub mod Fronts
pub mod Lays
