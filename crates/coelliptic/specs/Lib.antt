pub mod Coelliptic
