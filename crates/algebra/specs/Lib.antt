pub mod Model
pub mod Held
pub mod Models
pub mod Coefficients
pub mod HeldLemmas
pub mod Bits
pub mod Semilattice
pub mod Words
