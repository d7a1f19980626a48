pub mod Numbers
pub mod Arcs
pub mod Framing
pub mod Turns
pub mod Decoding
pub mod Readings
pub mod Sums
