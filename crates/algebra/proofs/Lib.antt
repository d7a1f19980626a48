pub mod AlgebraLaws
pub mod Coefficients
