-- definitions
pub mod Counts
pub mod Batch
-- laws
pub mod Layouts
pub mod Passes
pub mod PassContracts
pub mod Elements
pub mod Instances
