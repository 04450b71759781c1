-- How much work a batch did: the multiplications of elements and the inversions that its passes made, an inversion's own products
-- left out.
use Rattle.std.specs.Prelude.{ℕ, ◌+◌, ◌-◌, ◌*◌, ◌/◌, ◌%◌, ◌^◌, ◌<◌, Bool, cond, ◌&&◌, ◌==◌, nat_lt}
use Rattle.batch.specs.declared.counts.Counts.{Counts}

-- so many multiplications and inversions
abbrev pub counted : (multiplications inversions : ℕ) → Counts
counted multiplications inversions = record { multiplications = multiplications; inversions = inversions }

-- what two made
abbrev pub together : Counts → Counts → Counts
together a b = counted (a.multiplications + b.multiplications) (a.inversions + b.inversions)

-- no sum overflows
abbrev pub both_fit : Counts → Counts → Type 0
both_fit a b = (a.multiplications + b.multiplications < 2 ^ 64) × (a.inversions + b.inversions < 2 ^ 64)

-- the plain pass over n elements; over none it makes nothing
abbrev pub plain_pass : ℕ → Counts
plain_pass n = cond (n == 0) (counted 0 0) (counted (3 * n - 3) 1)

-- the four-lane pass over n elements
abbrev pub four_lane_pass : ℕ → Counts
four_lane_pass n = counted (3 * n + 1) 1

-- the four-lane pass is taken just where n is above 4 and a multiple of 4
abbrev pub takes_four_lanes : ℕ → Bool
takes_four_lanes n = nat_lt 4 n && n % 4 == 0

-- one pass over n elements
unfoldable pub pass_counts : ℕ → Counts
pass_counts n = cond (takes_four_lanes n) (four_lane_pass n) (plain_pass n)

-- the sum over the chunks of n elements, of an f that is 0 at 0: n / chunk whole chunks, and one of the elements left over
abbrev pub over_chunks : (ℕ → ℕ) → (chunk n : ℕ) → ℕ
over_chunks f chunk n = n / chunk * f chunk + f (n % chunk)

-- one pass over each chunk of n elements
unfoldable pub chunked_counts : (chunk n : ℕ) → Counts
chunked_counts chunk n =
    counted (over_chunks (λ k. (pass_counts k).multiplications) chunk n) (over_chunks (λ k. (pass_counts k).inversions) chunk n)
