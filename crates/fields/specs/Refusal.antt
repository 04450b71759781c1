-- The number of each refusal, and its position.
use Rattle.std.specs.Prelude.{ℕ}
use Rattle.fields.specs.declared.refusal.Refusal.{Refusal}
use Rattle.fields.specs.declared.refusal.Refusal.TheVariants.{LogSize, Index, Scalar, Length, Chunk, Word, Contradiction}
use Rattle.fields.specs.declared.refusal.Refusal.TheVariants.{Reduction, Inverse, Halving, Doublings, Circle, Narrowing}

-- a refusal's number; the cases stand in the order of checking
abbrev pub number_of : Refusal → ℕ
number_of LogSize = 6
number_of Index = 4
number_of Scalar = 11
number_of Length = 8
number_of Chunk = 9
number_of (Word at) = 1
number_of Contradiction = 14
number_of Reduction = 2
number_of (Inverse at) = 3
number_of Halving = 5
number_of Doublings = 7
number_of Circle = 10
number_of Narrowing = 12

-- 0 unless the row gives one
abbrev pub position_of : Refusal → ℕ
position_of LogSize = 0
position_of Index = 0
position_of Scalar = 0
position_of Length = 0
position_of Chunk = 0
position_of (Word at) = at
position_of Contradiction = 0
position_of Reduction = 0
position_of (Inverse at) = at
position_of Halving = 0
position_of Doublings = 0
position_of Circle = 0
position_of Narrowing = 0
