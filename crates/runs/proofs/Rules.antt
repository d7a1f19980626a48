-- The rows of each working rule are the rows of its kind of plan.
pub mod Lasting
pub mod Table
pub mod Choice
pub mod Sequence
pub mod Loop
pub mod Fork
pub mod Abort
