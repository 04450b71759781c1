-- The turns that `bit_reverse` takes by blocks: x after x, the words 4x to 4x + 3 of each quarter.
use Prim.Native.Nat.{ℕ, zero, suc, ◌+◌, ◌-◌, ◌*◌, ◌/◌, ◌%◌, ◌^◌, ◌≤◌, ◌<◌}
use mathlib.Core.Path.{◌≡◌, refl, sym, ◌∙◌, ap, ap₂, subst}
use mathlib.Core.List.{List, [], ◌∷◌}
use native.Mathlib.Nat as N
use native.Mathlib.Omega.{arith}
use lib.ListN.{length, get_or}
use lib.Pow as W
use Rattle.std.specs.Prelude.{swap}
use Rattle.orders.specs.BitReverse.{reverse_bits, reversed_below, reversed_dropped, reversed_parts}
use Rattle.orders.specs.Orders.{bit_reverse_index, reordered}
use Rattle.orders.proofs.OrderLaws.{index_reversed}
use Rattle.orders.proofs.Columns.{within, twice}
use Rattle.orders.specs.Swaps.{swapped_if_before}
use Rattle.orders.proofs.Turns.{Visits, Swapped, all_swapped, swapped_next, swapped_before, not_swapped}

-- the turn of place k, where there are so many blocks
unfoldable pub block_turn : ℕ → ℕ → ℕ
block_turn blocks k = 16 * (k / 4 % blocks) + 4 * (k / 4 / blocks) + k % 4

module _ (n m : ℕ) (e : n ≡ 2 + (m + 2)) (l : List ℕ) (size : length l ≡ 2 ^ n) where
  sixteenths : length l ≡ 16 * 2 ^ m
  sixteenths = size ∙ ap (λ (t : ℕ). 2 ^ t) e ∙ omega (arith, W.pow-add 2 2 (m + 2), W.pow-add 2 m 2)

  -- place k, with k / 4 and k % 4 given
  turn_of : (k h x c : ℕ) → x < 2 ^ m → k / 4 ≡ h * 2 ^ m + x → k % 4 ≡ c → block_turn (2 ^ m) k ≡ 16 * x + 4 * h + c
  unfolding block_turn
  turn_of k h x c b f g =
      let low : k / 4 % 2 ^ m ≡ x = ap (λ (t : ℕ). t % 2 ^ m) f ∙ W.low h m b in
      let high : k / 4 / 2 ^ m ≡ h = ap (λ (t : ℕ). t / 2 ^ m) f ∙ W.high h m b in
      rw (low, high, g)

  partner_of : (k h x c : ℕ) → x < 2 ^ m → k / 4 ≡ h * 2 ^ m + x → k % 4 ≡ c
      → reverse_bits n k ≡ reverse_bits 2 c * (4 * 2 ^ m) + (4 * reverse_bits m x + reverse_bits 2 h)
  partner_of k h x c b f g =
      let whole : k ≡ k / 4 * 2 ^ 2 + c = omega arith in
      let lowest : reverse_bits 2 k ≡ reverse_bits 2 c = ap (reverse_bits 2) whole ∙ reversed_dropped 2 (k / 4) c in
      let upper : reverse_bits (m + 2) (k / 4) ≡ reverse_bits m x * 4 + reverse_bits 2 h =
      reversed_parts m 2 (k / 4)
      ∙ ap₂ (λ (s t : ℕ). s * 4 + t) (ap (reverse_bits m) f ∙ reversed_dropped m h x)
      (ap (λ (t : ℕ). reverse_bits 2 (t / 2 ^ m)) f ∙ ap (reverse_bits 2) (W.high h m b)) in
      ap (λ (t : ℕ). reverse_bits t k) e
      ∙ reversed_parts 2 (m + 2) k
      ∙ ap₂ (λ (s t : ℕ). s * 2 ^ (m + 2) + t) lowest upper
      ∙ omega (arith, ap (λ (t : ℕ). reverse_bits 2 c * t) (W.pow-add 2 m 2 ∙ N.mul_comm (2 ^ m) 4))

  upper : (k : ℕ) → k < length l → k / 4 / 2 ^ m < 4
  upper k h = W.shr_lt 2 m (omega (arith, sixteenths, W.pow-add 2 2 m))

  visits : Visits (length l) (block_turn (2 ^ m))
  unfolding block_turn
  visits = record {
    below = λ k h. omega (arith, sixteenths, upper k h, N.mod-lt (k / 4) (W.pow_pos m));
    once = λ k j h g q.
        let low : k / 4 % 2 ^ m ≡ j / 4 % 2 ^ m = omega (arith, upper k h, upper j g) in
        let high : k / 4 / 2 ^ m ≡ j / 4 / 2 ^ m = omega (arith, upper k h, upper j g) in
        let same : k / 4 ≡ j / 4 =
        sym (W.split (k / 4) m) ∙ omega (arith, low, ap (λ (t : ℕ). t * 2 ^ m) high) ∙ W.split (j / 4) m in
        omega (arith, upper k h, upper j g);
  }

  abbrev SwappedBlocks : ℕ → List ℕ → Type 0
  SwappedBlocks t v = Swapped (reverse_bits n) (block_turn (2 ^ m)) l t v

  -- word c of row h of block x: the reverses of c and h in two bits are d and g
  word_swapped : (h x y c d g quarter : ℕ) → quarter ≡ 4 * 2 ^ m → h < 4 → c < 4 → d < 4 → x < 2 ^ m
      → y ≡ reverse_bits m x → reverse_bits 2 c ≡ d → reverse_bits 2 h ≡ g
      → (s t u i j : ℕ) (v : List ℕ) → s ≡ t + 1 → t ≡ 16 * x + 4 * h + c → u ≡ 16 * y + 4 * d + g
      → i ≡ h * quarter + 4 * x + c → j ≡ d * quarter + 4 * y + g → SwappedBlocks t v → SwappedBlocks s (swapped_if_before t u i j v)
  word_swapped h x y c d g quarter q hh ch dh b r cd hg s t u i j v next et eu ei ej w =
      let bound : g < 4 = rw (sym hg) (reversed_below 2 h) in
      let below : y < 2 ^ m = rw r (reversed_below m x) in
      let rows : h * quarter ≡ h * 2 ^ m * 4 = ap (λ (t : ℕ). h * t) (q ∙ N.mul_comm 4 (2 ^ m)) ∙ sym (N.mul_assoc h (2 ^ m) 4) in
      let columns : d * quarter ≡ d * 2 ^ m * 4 =
      ap (λ (t : ℕ). d * t) (q ∙ N.mul_comm 4 (2 ^ m)) ∙ sym (N.mul_assoc d (2 ^ m) 4) in
      let up : h * 2 ^ m ≤ 3 * 2 ^ m = N.mul-le-mul_right (2 ^ m) (N.le_of_suc-le-suc hh) in
      let partner : reverse_bits n i ≡ j =
      partner_of i h x c b (omega arith) (omega arith)
      ∙ ap₂ (λ (a z : ℕ). a * (4 * 2 ^ m) + z) cd (ap₂ (λ (a z : ℕ). 4 * a + z) (sym r) hg)
      ∙ ap (λ (a : ℕ). d * a + (4 * y + g)) (sym q)
      ∙ omega arith in
      swapped_next (reverse_bits n) (block_turn (2 ^ m)) l (within n l size) (twice n l size) visits t i j
      (turn_of i h x c b (omega arith) (omega arith) ∙ sym et) (omega (arith, sixteenths)) partner v w s u next
      (turn_of j d y g below (omega arith) (omega arith) ∙ sym eu)

-- l with all done whose turn, or whose partner's, is below t
abbrev pub Blocks : ℕ → List ℕ → ℕ → List ℕ → Type 0
Blocks n l t v = Swapped (reverse_bits n) (block_turn (2 ^ (n - 4))) l t v

-- the code's table of the reverses in two bits
abbrev pub table : ℕ → ℕ
table c = get_or (0 ∷ 2 ∷ 1 ∷ 3 ∷ []) c 0

reversed_table : (c : ℕ) → c < 4 → table c ≡ reverse_bits 2 c
unfolding reverse_bits
reversed_table zero h = refl
reversed_table (suc zero) h = refl
reversed_table (suc (suc zero)) h = refl
reversed_table (suc (suc (suc zero))) h = refl
reversed_table (suc (suc (suc (suc c)))) h = absurd (N.not-le_of_lt h (omega arith))

-- the turn of the partner of word c of row h of block x, and the places of both are within the column
abbrev pub InBlock : List ℕ → (x y h c : ℕ) → Type 0
InBlock l x y h c =
    (16 * y + 4 * table c + table h < length l)
    × (h * (length l / 4) + 4 * x + c < length l)
    × (table c * (length l / 4) + 4 * y + table h < length l)

module _ (n : ℕ) (least : 4 ≤ n) (l : List ℕ) (size : length l ≡ 2 ^ n) where
  four_more : n ≡ 2 + (n - 4 + 2)
  four_more = omega arith

  pub all_blocks : (x : ℕ) (v : List ℕ) → length l / 16 ≤ x → Blocks n l (16 * x) v → v ≡ reordered (reverse_bits n) l
  all_blocks x v h s =
      all_swapped (reverse_bits n) (block_turn (2 ^ (n - 4))) l (within n l size) (twice n l size)
      (visits n (n - 4) four_more l size) (16 * x) v (omega (arith, sixteenths n (n - 4) four_more l size)) s

  -- word c of row h of block x; y is the partner block, and the partner is word g of row d there
  module _ (x y h c : ℕ) (b : x < length l / 16) (r : y ≡ bit_reverse_index x (n - 4)) (hh : h < 4) (hc : c < 4) where
    abbrev d : ℕ
    d = table c

    abbrev g : ℕ
    g = table h

    rc : d ≡ reverse_bits 2 c
    rc = reversed_table c hc

    rh : g ≡ reverse_bits 2 h
    rh = reversed_table h hh

    low : x < 2 ^ (n - 4)
    low = omega (arith, sixteenths n (n - 4) four_more l size)

    reversed : y ≡ reverse_bits (n - 4) x
    reversed = r ∙ index_reversed x (n - 4) low

    low_partner : y < 2 ^ (n - 4)
    low_partner = rw reversed (reversed_below (n - 4) x)

    partner_row : d < 4
    partner_row = rw rc (reversed_below 2 c)

    partner_column : g < 4
    partner_column = rw rh (reversed_below 2 h)

    pub rooms : InBlock l x y h c
    rooms =
        let all = sixteenths n (n - 4) four_more l size in
        let row = N.mul-le-mul_right (length l / 4) (N.le_of_suc-le-suc hh) in
        let other_row = N.mul-le-mul_right (length l / 4) (N.le_of_suc-le-suc partner_row) in (
          omega (arith, low_partner, partner_row, partner_column),
          omega (arith, low),
          omega (arith, low_partner, partner_column),
        )

    -- t and u are the turns of the word and of its partner, i and j their places
    module _ (t u : ℕ) (et : t ≡ 16 * x + 4 * h + c) (eu : u ≡ 16 * y + 4 * d + g) (v : List ℕ)
        (w : Blocks n l (16 * x + 4 * h + c) v) where
      abbrev Next : List ℕ → Type 0
      Next = Blocks n l (16 * x + 4 * h + (c + 1))

      next_in_block : (i j : ℕ) → i ≡ h * (length l / 4) + 4 * x + c → j ≡ d * (length l / 4) + 4 * y + g
          → Next (swapped_if_before t u i j v)
      next_in_block i j ei ej =
          word_swapped n (n - 4) four_more l size h x y c d g (length l / 4) (omega (arith, sixteenths n (n - 4) four_more l size))
          hh hc partner_row low reversed (sym rc) (sym rh) _ t u i j v (omega arith) et eu ei ej
          (subst (λ (k : ℕ). Blocks n l k v) (sym et) w)

      pub swapped_in_block : (i j : ℕ) → i ≡ h * (length l / 4) + 4 * x + c → j ≡ d * (length l / 4) + 4 * y + g → t < u
          → Next (swap v i j)
      swapped_in_block i j ei ej first =
          let long = w.long in
          let rooms = rooms in
          subst Next (swapped_before t u i j v (omega arith) (omega arith) first) (next_in_block i j ei ej)

      pub kept_in_block : u ≤ t → Next v
      kept_in_block later = subst Next (not_swapped t u _ _ v later) (next_in_block _ _ refl refl)

  -- a block whose partner came before it
  module _ (x y : ℕ) (b : x < length l / 16) (r : y ≡ bit_reverse_index x (n - 4)) (before : y < x) (v : List ℕ)
      (w : Blocks n l (16 * x) v) where
    kept_so_far : (j : ℕ) → j ≤ 16 → Blocks n l (16 * x + j) v
    kept_so_far zero h = rw (N.add-zero (16 * x)) w
    kept_so_far (suc j) h =
        let t : 16 * x + 4 * (j / 4) + j % 4 ≡ 16 * x + j = omega arith in
        let s : 16 * x + 4 * (j / 4) + (j % 4 + 1) ≡ 16 * x + suc j = omega arith in
        subst (λ (t : ℕ). Blocks n l t v) s
        (kept_in_block x y (j / 4) (j % 4) b r (omega arith) (omega arith) _ _ refl refl v
        (subst (λ (t : ℕ). Blocks n l t v) (sym t) (kept_so_far j (omega arith)))
        (omega (
          arith,
          partner_row x y (j / 4) (j % 4) b r (omega arith) (omega arith),
          partner_column x y (j / 4) (j % 4) b r (omega arith) (omega arith),
        )))

    pub block_kept : Blocks n l (16 * (x + 1)) v
    block_kept = subst (λ (t : ℕ). Blocks n l t v) (omega arith) (kept_so_far 16 (N.le_refl 16))
