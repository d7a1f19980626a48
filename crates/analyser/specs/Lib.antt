pub mod Faults
pub mod Records
pub mod Files
pub mod Cores
