-- Columns changed in place or filled word by word, in any order of visits: `at k` is the turn that place k has.
use Prim.Native.Nat.{ℕ, ◌+◌, ◌-◌, ◌≤◌, ◌<◌}
use mathlib.Core.Path.{◌≡◌, sym, ◌∙◌, ap, subst}
use mathlib.Core.List.{List, ◌++◌}
use native.Mathlib.Nat as N
use native.Mathlib.Decide.{dec_lt}
use native.Mathlib.Omega.{arith}
use borrow.Author.Tests.{lt-ltb, le-ltb}
use lib.ListN.{length, get_or, set, drop, length-set, length-append, length-drop, get_or-append}
use lib.Seq.{get_or-set_same, get_or-set_other, ext_get_or, get_or-append-add, get_or-drop}
use Rattle.std.specs.Prelude.{swap}
use Rattle.std.proofs.lemmas.List.Edits.{swap_is}
use Rattle.orders.specs.Orders.{reordered}
use Rattle.orders.proofs.OrderLaws.{reordered-length, reordered-at, is_reordered}
use Rattle.orders.specs.Swaps.{swapped, swapped_if_before}

-- each of so many places has one turn, and no two have the same
pub record Visits (size : ℕ) (at : ℕ → ℕ) : Type 0 where
  pub below : (k : ℕ) → k < size → at k < size
  pub once : (k m : ℕ) → k < size → m < size → at k ≡ at m → k ≡ m

pub in_order : (size : ℕ) → Visits size (λ k. k)
in_order size = record { below = λ k h. h; once = λ k m h g e. e }

-- ---- swaps: at its turn a place changes its word with its partner's, if that comes later

-- v is l with all done whose turn, or whose partner's, is below t
pub record Swapped (f at : ℕ → ℕ) (l : List ℕ) (t : ℕ) (v : List ℕ) : Type 0 where
  pub long : length v ≡ length l
  pub visited : (k : ℕ) → k < length l → at k < t → get_or v k 0 ≡ get_or l (f k) 0
  pub partner : (k : ℕ) → k < length l → at (f k) < t → get_or v k 0 ≡ get_or l (f k) 0
  pub rest : (k : ℕ) → k < length l → t ≤ at k → t ≤ at (f k) → get_or v k 0 ≡ get_or l k 0

module _ (f at : ℕ → ℕ) (l : List ℕ) (within : (k : ℕ) → k < length l → f k < length l) (twice : (k : ℕ) → k < length l → f (f k) ≡ k)
    (visits : Visits (length l) at) where
  pub all_swapped : (t : ℕ) (v : List ℕ) → length l ≤ t → Swapped f at l t v → v ≡ reordered f l
  all_swapped t v h s = is_reordered f l v s.long (λ k b. s.visited k b (omega (arith, visits.below k b)))

  -- the turn t of place i, whose partner is j
  module _ (t i j : ℕ) (turn : at i ≡ t) (in-i : i < length l) (to_j : f i ≡ j) (v : List ℕ) (s : Swapped f at l t v) where
    back : f j ≡ i
    back = ap f (sym to_j) ∙ twice i in-i

    in_j : j < length l
    in_j = subst (λ (m : ℕ). m < length l) to_j (within i in-i)

    -- the place whose turn it is, and its partner
    is_i : (k : ℕ) → k < length l → (at k < t → ⊥) → at k < t + 1 → k ≡ i
    is_i k b g h = visits.once k i b in-i (omega arith)

    is_j : (k : ℕ) → k < length l → (at (f k) < t → ⊥) → at (f k) < t + 1 → k ≡ j
    is_j k b g h = sym (twice k b) ∙ ap f (is_i (f k) (within k b) g h) ∙ to_j

    -- where j had its turn before, or is i itself
    kept_i : at j ≤ t → get_or v i 0 ≡ get_or l (f i) 0
    kept_i h = elim (dec_lt (at j) t) [
      | yes e ↦ s.partner i in-i (subst (λ (m : ℕ). at m < t) (sym to_j) e)
      | no g ↦ s.rest i in-i (omega arith) (subst (λ (m : ℕ). t ≤ at m) (sym to_j) (omega arith))
          ∙ ap (λ (m : ℕ). get_or l m 0) (sym (to_j ∙ is_i j in_j g (omega arith)))
    ]

    kept_j : at j ≤ t → get_or v j 0 ≡ get_or l (f j) 0
    kept_j h = elim (dec_lt (at j) t) [
      | yes e ↦ s.visited j in_j e
      | no g ↦
          let e : j ≡ i = is_i j in_j g (omega arith) in
          subst (λ (m : ℕ). get_or v m 0 ≡ get_or l (f m) 0) (sym e) (kept_i h)
    ]

    kept : at j ≤ t → Swapped f at l (t + 1) v
    kept h = record {
      long = s.long;
      visited = λ k b g. elim (dec_lt (at k) t) [
        | yes e ↦ s.visited k b e
        | no n ↦ subst (λ (m : ℕ). get_or v m 0 ≡ get_or l (f m) 0) (sym (is_i k b n g)) (kept_i h)
      ];
      partner = λ k b g. elim (dec_lt (at (f k)) t) [
        | yes e ↦ s.partner k b e
        | no n ↦ subst (λ (m : ℕ). get_or v m 0 ≡ get_or l (f m) 0) (sym (is_j k b n g)) (kept_j h)
      ];
      rest = λ k b g h. s.rest k b (omega arith) (omega arith);
    }

    in_v : (k : ℕ) → k < length l → k < length v
    in_v k b = subst (λ (m : ℕ). k < m) (sym s.long) b

    abbrev w : List ℕ
    w = swapped i j v

    -- away from both places
    other : (k : ℕ) → (k ≡ i → ⊥) → (k ≡ j → ⊥) → get_or w k 0 ≡ get_or v k 0
    other k a b = get_or-set_other (set v i (get_or v j 0)) j k (get_or v i 0) 0 b ∙ get_or-set_other v i k (get_or v j 0) 0 a

    changed_i : t < at j → get_or w i 0 ≡ get_or l (f i) 0
    changed_i h =
        get_or-set_other (set v i (get_or v j 0)) j i (get_or v i 0) 0 (λ e. omega (arith, ap at e))
        ∙ get_or-set_same v i (get_or v j 0) 0 (in_v i in-i)
        ∙ s.rest j in_j (omega arith) (omega (arith, ap at back))
        ∙ ap (λ (m : ℕ). get_or l m 0) (sym to_j)

    changed_j : t < at j → get_or w j 0 ≡ get_or l (f j) 0
    changed_j h =
        get_or-set_same (set v i (get_or v j 0)) j (get_or v i 0) 0 (simp length-set (in_v j in_j))
        ∙ s.rest i in-i (omega arith) (omega (arith, ap at to_j))
        ∙ ap (λ (m : ℕ). get_or l m 0) (sym back)

    changed : t < at j → Swapped f at l (t + 1) w
    changed h = record {
      long = simp length-set s.long;
      visited = λ k b g. elim (dec_lt (at k) t) [
        | yes e ↦ other k (λ q. omega (arith, ap at q)) (λ q. omega (arith, ap at q)) ∙ s.visited k b e
        | no n ↦ subst (λ (m : ℕ). get_or w m 0 ≡ get_or l (f m) 0) (sym (is_i k b n g)) (changed_i h)
      ];
      partner = λ k b g. elim (dec_lt (at (f k)) t) [
        | yes e ↦ other k (λ q. omega (arith, ap (λ (m : ℕ). at (f m)) q, ap at to_j))
            (λ q. omega (arith, ap (λ (m : ℕ). at (f m)) q, ap at back)) ∙ s.partner k b e
        | no n ↦ subst (λ (m : ℕ). get_or w m 0 ≡ get_or l (f m) 0) (sym (is_j k b n g)) (changed_j h)
      ];
      rest = λ k b g q. other k (λ e. omega (arith, ap at e)) (λ e. omega (arith, ap (λ (m : ℕ). at (f m)) e, ap at back))
          ∙ s.rest k b (omega arith) (omega arith);
    }

    pub swapped_next : (s u : ℕ) → s ≡ t + 1 → at j ≡ u → Swapped f at l s (swapped_if_before t u i j v)
    unfolding swapped_if_before
    swapped_next s u next e =
        subst (λ (m : ℕ). Swapped f at l m (swapped_if_before t u i j v)) (sym next)
        (elim (dec_lt t u) [
          | yes h ↦ rw (lt-ltb t u h) (changed (omega arith))
          | no g ↦ rw (le-ltb t u (omega arith)) (kept (omega arith))
        ])

-- what the code's `swap` leaves
pub swapped_before : (t u i j : ℕ) (v : List ℕ) → i < length v → j < length v → t < u → swapped_if_before t u i j v ≡ swap v i j
unfolding swapped_if_before
swapped_before t u i j v in-i in_j h = rw (lt-ltb t u h) (swap_is v i j 0 in-i in_j)

pub not_swapped : (t u i j : ℕ) (v : List ℕ) → u ≤ t → swapped_if_before t u i j v ≡ v
unfolding swapped_if_before
not_swapped t u i j v h = rw (le-ltb t u h)

-- ---- copies: at its turn a place of the destination gets its word

-- out is dst with the words of values in place whose turn is below t
pub record Copied (f at : ℕ → ℕ) (values dst : List ℕ) (t : ℕ) (out : List ℕ) : Type 0 where
  pub long : length out ≡ length dst
  pub written : (k : ℕ) → k < length values → at k < t → get_or out k 0 ≡ get_or values (f k) 0
  pub rest : (k : ℕ) → (k < length values → t ≤ at k) → get_or out k 0 ≡ get_or dst k 0

module _ (f at : ℕ → ℕ) (values dst : List ℕ) (room : length values ≤ length dst) (visits : Visits (length values) at) where
  next_copied : (t i j : ℕ) (out : List ℕ) → at i ≡ t → i < length values → f i ≡ j → Copied f at values dst t out
      → Copied f at values dst (t + 1) (set out i (get_or values j 0))
  next_copied t i j out turn in-i to_j s = record {
    long = simp length-set s.long;
    written = λ k b g. elim (dec_lt (at k) t) [
      | yes e ↦ get_or-set_other out i k (get_or values j 0) 0 (λ q. omega (arith, ap at q)) ∙ s.written k b e
      | no n ↦ subst (λ (m : ℕ). get_or (set out i (get_or values j 0)) m 0 ≡ get_or values (f m) 0)
          (sym (visits.once k i b in-i (omega arith))) here
    ];
    rest = λ k h. get_or-set_other out i k (get_or values j 0) 0 (λ q. away k h q) ∙ s.rest k (λ b. N.le_trans (N.le-add_right t 1) (h b));
  }
    where
      here : get_or (set out i (get_or values j 0)) i 0 ≡ get_or values (f i) 0
      here = get_or-set_same out i (get_or values j 0) 0 (omega (arith, s.long)) ∙ ap (λ (m : ℕ). get_or values m 0) (sym to_j)

      away : (k : ℕ) → (k < length values → t + 1 ≤ at k) → k ≡ i → ⊥
      away k h q = omega (arith, ap at q, h (subst (λ (m : ℕ). m < length values) (sym q) in-i))

  pub copied : (s t i j : ℕ) (out : List ℕ) → s ≡ t + 1 → at i ≡ t → i < length values → f i ≡ j → Copied f at values dst t out
      → Copied f at values dst s (set out i (get_or values j 0))
  copied s t i j out next turn in-i to_j c =
      subst (λ (m : ℕ). Copied f at values dst m (set out i (get_or values j 0))) (sym next) (next_copied t i j out turn in-i to_j c)

  pub all_copied : (t : ℕ) (out : List ℕ) → length values ≤ t → Copied f at values dst t out
      → out ≡ reordered f values ++ drop (length values) dst
  all_copied t out h s = ext_get_or 0 out (reordered f values ++ drop (length values) dst) lengths same
    where
      reordered-values-length : length (reordered f values) ≡ length values
      reordered-values-length = reordered-length f values

      lengths : length out ≡ length (reordered f values ++ drop (length values) dst)
      lengths = s.long ∙ sym (length-append (reordered f values) (drop (length values) dst)
          ∙ omega (arith, reordered-values-length, length-drop (length values) dst))

      past : (k : ℕ) → length values ≤ k → get_or out k 0 ≡ get_or (reordered f values ++ drop (length values) dst) k 0
      past k g =
          let e : length (reordered f values) + (k - length values) ≡ k = omega (arith, reordered-values-length) in
          s.rest k (λ b. absurd (N.not-le_of_lt b g))
          ∙ ap (λ (m : ℕ). get_or dst m 0) (omega arith)
          ∙ sym (get_or-drop (length values) dst (k - length values) 0)
          ∙ sym (get_or-append-add (reordered f values) (drop (length values) dst) (k - length values) 0)
          ∙ ap (λ (m : ℕ). get_or (reordered f values ++ drop (length values) dst) m 0) e

      same : (k : ℕ) → k < length out → get_or out k 0 ≡ get_or (reordered f values ++ drop (length values) dst) k 0
      same k b = elim (dec_lt k (length values)) [
        | yes e ↦ s.written k e (omega (arith, visits.below k e))
            ∙ sym (get_or-append (reordered f values) (drop (length values) dst) 0 k (rw reordered-values-length e)
            ∙ reordered-at f values k e)
        | no g ↦ past k (omega arith)
      ]
