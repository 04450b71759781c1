pub mod Reductions
pub mod Powers
pub mod ProductSums
pub mod PowerLoop
