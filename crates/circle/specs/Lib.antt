-- definitions
pub mod Formulas
pub mod CirclePoint
pub mod Point
pub mod SecurePoint
pub mod Index
pub mod Table
-- laws
pub mod Points
pub mod PointLaws
pub mod AnswerLaws
pub mod IndexPoints
pub mod LogOrder
pub mod IndexOfPoint
pub mod TableRule
