-- The six working rules, each as it is worked: ⊕ is join, ⊙ is add, on coefficients.
pub mod Rule
pub mod Table
pub mod Choice
pub mod Sequence
pub mod Loop
pub mod Fork
pub mod Abort
