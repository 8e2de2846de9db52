pub mod Inquiry
