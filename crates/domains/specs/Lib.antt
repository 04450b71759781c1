-- definitions
pub mod Record
pub mod Listing
pub mod Coset
pub mod Iterator
pub mod Domain
pub mod Canonic
pub mod Checked
-- laws
pub mod RecordLaws
pub mod CosetLaws
pub mod IteratorLaws
pub mod PointSet
pub mod CanonicDomain
pub mod AnswersFit
pub mod Agreement
pub mod BitReversed
pub mod Doubled
