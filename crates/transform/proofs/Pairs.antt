-- Two words written side by side.
use Prim.Native.Nat.{ℕ, ◌+◌, ◌<◌}
use mathlib.Core.Path.{◌≡◌, ◌∙◌}
use mathlib.Core.List.{List}
use native.Mathlib.Omega.{arith}
use lib.ListN.{length, get_or, set, length-set}
use lib.Seq.{get_or-set_same, get_or-set_other}

module _ (l : List ℕ) (a u v : ℕ) where
  abbrev pub written : List ℕ
  written = set (set l a u) (a + 1) v

  pub written-length : length written ≡ length l
  written-length = length-set (set l a u) (a + 1) v ∙ length-set l a u

  pub written-first : a < length l → get_or written a 0 ≡ u
  written-first h = get_or-set_other (set l a u) (a + 1) a v 0 (λ e. omega arith) ∙ get_or-set_same l a u 0 h

  pub written_second : a + 1 < length l → get_or written (a + 1) 0 ≡ v
  written_second h = get_or-set_same (set l a u) (a + 1) v 0 (omega (arith, length-set l a u))

  pub written_below : (j : ℕ) → j < a → get_or written j 0 ≡ get_or l j 0
  written_below j h = get_or-set_other (set l a u) (a + 1) j v 0 (λ e. omega arith) ∙ get_or-set_other l a j u 0 (λ e. omega arith)

  pub written_above : (j : ℕ) → a + 1 < j → get_or written j 0 ≡ get_or l j 0
  written_above j h = get_or-set_other (set l a u) (a + 1) j v 0 (λ e. omega arith) ∙ get_or-set_other l a j u 0 (λ e. omega arith)
