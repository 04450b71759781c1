-- definitions
pub mod Refusal
pub mod Check
pub mod Search
pub mod Columns
pub mod LogSize
pub mod Words
pub mod Field
pub mod M31
pub mod Extension
pub mod CM31
pub mod QM31
-- laws
pub mod CheckLaws
pub mod AnswerLaws
pub mod PairLaws
pub mod Seen
pub mod SearchLaws
pub mod LogSizeLaws
pub mod WideLaws
pub mod Signed
pub mod Representation
pub mod Elements
pub mod Inverse
pub mod FieldLaws
pub mod Squarings
