-- The lists of indices of the canonic coset of log size n, and its circle domain.
use Rattle.std.specs.Prelude.{ℕ, ◌+◌, ◌-◌, ◌*◌, ◌%◌, ◌^◌, List, ◌++◌, map, get_or}
use Rattle.algebra.specs.Listing.{listing}
use Rattle.circle.specs.Index.{neg_index}

-- h of log size n
abbrev pub unit : ℕ → ℕ
unit n = 2 ^ (30 - n)

-- the canonic coset's k-th index: h (2k + 1) modulo 2^31
abbrev pub coset_index : ℕ → ℕ → ℕ
coset_index n k = unit n * (2 * k + 1) % 2 ^ 31

-- the half coset: h + 4hi for i below 2^(n - 1)
abbrev pub half_indices : ℕ → List ℕ
half_indices n = listing (2 ^ (n - 1)) (λ i. unit n + 4 * unit n * i)

-- the canonic circle domain: the half coset's indices, then their negatives in the same order
unfoldable pub domain_indices : ℕ → List ℕ
domain_indices n = half_indices n ++ map neg_index (half_indices n)

-- the index of element i
abbrev pub domain_index : ℕ → ℕ → ℕ
domain_index n i = get_or (domain_indices n) i 0
