pub mod Judgements
pub mod Forms
pub mod Parts
