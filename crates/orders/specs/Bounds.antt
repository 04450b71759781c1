-- What the functions on arguments that are known to fit require of them.
use Rattle.std.specs.Prelude.{ℕ, ◌+◌, ◌*◌, ◌^◌, ◌≤◌, ◌<◌, ◌≡◌, ℤ, unsigned_abs}

-- log sizes, and an offset within 2^31 on either side
pub record Offset (domain eval : ℕ) (offset : ℤ) : Type 0 where
  pub least : 1 ≤ eval
  pub most : eval ≤ 30
  pub smaller : domain < eval
  pub few : unsigned_abs offset ≤ 2 ^ 31

-- a place on a circle of so many, and how far to move
pub record MoveRoom (size p : ℕ) (steps : ℤ) : Type 0 where
  pub some : 0 < size
  pub within : p < size
  pub most : size ≤ 2 ^ 31
  pub few : unsigned_abs steps < 2 ^ 62

-- an element of a domain whose halves have so many, and how far to move
pub record OnHalves (half p : ℕ) (steps : ℤ) : Type 0 where
  pub some : 0 < half
  pub within : p < 2 * half
  pub most : half ≤ 2 ^ 31
  pub few : unsigned_abs steps < 2 ^ 62

-- a log size, and how many words a column of it has: enough for blocks
pub record HasBlocks (log-size size : ℕ) : Type 0 where
  pub least : 4 ≤ log-size
  pub most : log-size < 64
  pub size_is_pow : size ≡ 2 ^ log-size

-- a mask of lower halves of k bits, which leaves room for the upper ones
pub record HalfFields (mask k : ℕ) : Type 0 where
  pub narrow : k < 64
  pub room : mask * 2 ^ k + mask < 2 ^ 64
