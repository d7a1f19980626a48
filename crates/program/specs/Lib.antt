pub mod Kinds
pub mod Refusals
pub mod Entries
pub mod Format
pub mod Bodies
pub mod Files
pub mod Roundtrip
pub mod Weights
