pub mod Passing
pub mod Alone
pub mod Taking
pub mod Telling
