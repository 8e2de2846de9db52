pub mod Standing
mod Spans
mod Going
pub mod Goes
