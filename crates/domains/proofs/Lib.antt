-- theorems
pub mod PointSet
pub mod BitReversed
pub mod CanonicDomain
pub mod Doubled
-- lemmas of the functions' proofs
pub mod Checks
pub mod Cosets
pub mod Shifts
