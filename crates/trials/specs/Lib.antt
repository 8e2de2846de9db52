pub mod Carried
pub mod Span
pub mod Ended
