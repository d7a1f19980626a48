pub mod Numbering
pub mod Figures
