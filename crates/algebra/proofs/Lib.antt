pub mod M31
pub mod Tower
pub mod Frobenius
pub mod Generator
pub mod Doubling
pub mod ZeroX
pub mod AllPoints
