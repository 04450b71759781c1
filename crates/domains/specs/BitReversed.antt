-- The half coset in its own bit-reversed order, and the circle domain in bit-reversed order.
use Rattle.std.specs.Prelude.{ℕ, ◌+◌, ◌-◌, ◌*◌}
use Rattle.circle.specs.Index.{index_point}
use Rattle.orders.specs.BitReverse.{reverse_bits}
use Rattle.domains.specs.Listing.{unit}

-- the index of point k of the half coset of the domain of log size n, in the half coset's own bit-reversed order
abbrev pub half_index : ℕ → ℕ → ℕ
half_index n k = unit n + 4 * unit n * reverse_bits (n - 1) k

abbrev pub half_point : ℕ → ℕ → ℕ × ℕ
half_point n k = index_point (half_index n k)
