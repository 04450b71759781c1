pub mod BitReverse
pub mod Orders
pub mod Swaps
pub mod Bounds
