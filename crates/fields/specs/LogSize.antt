-- The log sizes of canonic cosets, of their circle domains and of the transform: from 1 to 30.
use Rattle.std.specs.Prelude.{ℕ, Bool, ◌&&◌, nat_le}

-- whether a log size is in 1..30
abbrev pub is_log_size : ℕ → Bool
is_log_size n = nat_le 1 n && nat_le n 30
