pub mod Laws
pub mod Cases
pub mod Back
pub mod OffsetWritten
