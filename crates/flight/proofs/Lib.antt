pub mod Flights
pub mod Refusals
pub mod Came
