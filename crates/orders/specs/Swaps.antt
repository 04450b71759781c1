-- What one step of the loops computes.
use Rattle.std.specs.Prelude.{ℕ, ◌+◌, ◌*◌, ◌/◌, ◌^◌, cond, List, ltb, get_or, set, bit_and}

-- l with words i and j changed over
abbrev pub swapped : ℕ → ℕ → List ℕ → List ℕ
swapped i j l = set (set l i (get_or l j 0)) j (get_or l i 0)

-- l with words i and j changed over where t comes before u, else l
unfoldable pub swapped_if_before : (t u i j : ℕ) → List ℕ → List ℕ
swapped_if_before t u i j l = cond (ltb t u) (swapped i j l) l

-- `reverse_bits`: in each field of k + k bits, the two halves changed over; the mask has each lower half
abbrev pub halves_exchanged : (mask k x : ℕ) → ℕ
halves_exchanged mask k x = bit_and x mask * 2 ^ k + bit_and (x / 2 ^ k) mask
