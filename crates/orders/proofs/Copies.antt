-- The turns that the copying loops take.
use Prim.Native.Nat.{ℕ, ◌+◌, ◌-◌, ◌*◌, ◌/◌, ◌%◌, ◌≤◌, ◌<◌}
use mathlib.Core.Path.{◌≡◌, refl, sym, ◌∙◌, ap, subst}
use mathlib.Core.List.{List, ◌++◌}
use native.Mathlib.Omega.{arith}
use lib.ListN.{length, get_or, set, drop, length-set}
use Rattle.std.proofs.lemmas.List.{set-append_left, set-append_right}
use Rattle.orders.specs.Orders.{reordered, to_domain, to_coset}
use Rattle.orders.proofs.OrderLaws.{even_to_domain, odd_to_domain, first_to_coset, second_to_coset, to_coset_below, to_domain-to_coset}
use Rattle.orders.proofs.Turns.{Visits, in_order, Copied, copied, all_copied}

-- dst with the first 2i places of the coset's order written
abbrev pub ToCoset : List ℕ → List ℕ → ℕ → List ℕ → Type 0
ToCoset values dst i out = Copied (to_domain (length values)) (λ k. k) values dst (2 * i) out

-- dst with the first i places of the domain's order written, and the last i
abbrev pub ToDomain : List ℕ → List ℕ → ℕ → List ℕ → Type 0
ToDomain values dst i out = Copied (to_coset (length values)) (to_coset (length values)) values dst (2 * i) out

module _ (values dst : List ℕ) (even : length values % 2 ≡ 0) (room : length values ≤ length dst) where
  pub all_to_coset : (i : ℕ) (out : List ℕ) → length values / 2 ≤ i → ToCoset values dst i out
      → out ≡ reordered (to_domain (length values)) values ++ drop (length values) dst
  all_to_coset i out h s =
      all_copied (to_domain (length values)) (λ k. k) values dst room (in_order (length values)) (2 * i) out (omega arith) s

  pub next_to_coset : (i : ℕ) (out : List ℕ) → i < length values / 2 → ToCoset values dst i out
      → ToCoset values dst (i + 1) (set (set out (2 * i) (get_or values i 0)) (2 * i + 1) (get_or values (length values - 1 - i) 0))
  next_to_coset i out h s =
      let copy = copied (to_domain (length values)) (λ k. k) values dst room (in_order (length values)) in
      let s₁ = copy (2 * i + 1) (2 * i) (2 * i) i out refl refl (omega arith) (even_to_domain (length values) i) s in
      copy (2 * (i + 1)) (2 * i + 1) (2 * i + 1) (length values - 1 - i) _ (omega arith) refl (omega arith)
      (odd_to_domain (length values) i (omega arith)) s₁

  visits_coset : Visits (length values) (to_coset (length values))
  visits_coset = record {
    below = to_coset_below (length values) even;
    once = λ k m h g q.
        sym (to_domain-to_coset (length values) even k h)
        ∙ ap (to_domain (length values)) q
        ∙ to_domain-to_coset (length values) even m g;
  }

  pub all_to_domain : (i : ℕ) (out : List ℕ) → length values / 2 ≤ i → ToDomain values dst i out
      → out ≡ reordered (to_coset (length values)) values ++ drop (length values) dst
  all_to_domain i out h s =
      all_copied (to_coset (length values)) (to_coset (length values)) values dst room visits_coset (2 * i) out (omega arith) s

  -- `first` and `second` are what the code split the destination into
  pub next_to_domain : (i : ℕ) (first second : List ℕ) → length first ≡ length values / 2 → i < length values / 2
      → ToDomain values dst i (first ++ second)
      → ToDomain values dst (i + 1)
      (set first i (get_or values (2 * i) 0) ++ set second (length values / 2 - 1 - i) (get_or values (2 * i + 1) 0))
  next_to_domain i first second long h s =
      let copy = copied (to_coset (length values)) (to_coset (length values)) values dst room visits_coset in
      let low : to_coset (length values) i ≡ 2 * i = first_to_coset (length values) i h in
      let high : to_coset (length values) (length values - 1 - i) ≡ 2 * i + 1 =
      second_to_coset (length values) (length values - 1 - i) (omega arith) ∙ omega arith in
      let s₁ = copy (2 * i + 1) (2 * i) i (2 * i) (first ++ second) refl low (omega arith) low s in
      subst (ToDomain values dst (i + 1)) halves
      (copy (2 * (i + 1)) (2 * i + 1) (length values - 1 - i) (2 * i + 1) _ (omega arith) high (omega arith) high s₁)
    where
      halves : set (set (first ++ second) i (get_or values (2 * i) 0)) (length values - 1 - i) (get_or values (2 * i + 1) 0)
          ≡ set first i (get_or values (2 * i) 0) ++ set second (length values / 2 - 1 - i) (get_or values (2 * i + 1) 0)
      halves =
          let w = get_or values (2 * i) 0 in
          let z = get_or values (2 * i + 1) 0 in
          let front : set (first ++ second) i w ≡ set first i w ++ second = set-append_left first second i w (omega arith) in
          ap (λ (t : List ℕ). set t (length values - 1 - i) z) front
          ∙ set-append_right (set first i w) second (length values / 2) (length values - 1 - i) z
          (simp length-set long) (omega arith)
          ∙ ap (λ (t : ℕ). set first i w ++ set second t z) (omega arith)
