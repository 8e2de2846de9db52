pub mod Burn
