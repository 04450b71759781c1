pub mod Digits
pub mod DoubleAndAdd
pub mod Windows
