-- the theorem that a reader opens first
pub mod Theorem
-- definitions
pub mod Transform
-- laws
pub mod Accepted
pub mod Tree
pub mod Twiddles
pub mod Elements
pub mod TreeLaws
pub mod Marked
