pub mod Runs
pub mod Vehicles
