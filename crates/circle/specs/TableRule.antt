-- The rule of the table: at the place of window w, digit d stands the entry (d digits^w) G.
use Rattle.std.specs.Prelude.{◌≡◌, ℕ, zero, suc, ◌+◌, ◌-◌, ◌*◌, ◌^◌, ◌<◌, ◌≤◌, List, [], ◌∷◌, ◌++◌, length, slice_index, refl}
use Rattle.std.proofs.Common.{sym, ◌∙◌, ap, subst, arith, lt-ltb, length-append, get_or-append-add}
use Rattle.std.proofs.Math.Nat as N
use Rattle.std.proofs.Math.Decide.{ℕ_discrete}
use Rattle.std.proofs.Math.ListN.{get_or-append}
use Rattle.algebra.specs.M31.{m31}
use Rattle.algebra.specs.Circle.{plus, multiple, zero_point}
use Rattle.fields.specs.Words.{words31}
use Rattle.fields.specs.Inverse.{m31_representation}
use Rattle.circle.specs.Point.{generator}
use Rattle.circle.specs.Points.{multiple-mul}
use Rattle.circle.specs.Table.{windows, digits, last_digits, digits_of, InTable, place, point_at, FollowsRule}
use Rattle.circle.specs.Table.{run, window_words, next_base, windows_from, table_words, table_length}

pub digits_before_last : (w : ℕ) → w < windows - 1 → digits_of w ≡ digits
unfolding digits_of
digits_before_last w h = rw (lt-ltb w (windows - 1) h)

pub digits_last : (w : ℕ) → w ≡ windows - 1 → digits_of w ≡ last_digits
unfolding digits_of
digits_last w e = ap digits_of e

-- both words of an entry are in the table
pub place_below : (w d : ℕ) → InTable w d → 2 * place w d + 1 < table_length
place_below w d t = elim (ℕ_discrete w (windows - 1)) [
  | yes e ↦ omega (arith, digits_last w e, t.is_digit)
  | no n ↦ omega (arith, digits_before_last w (omega (arith, n, t.is_window)), t.is_digit, t.is_window)
]

-- the first point apart
point_at_cons : (x y : ℕ) (words : List ℕ) (k : ℕ) → point_at (x ∷ y ∷ words) (suc k) ≡ point_at words k
point_at_cons x y words k =
    let e : 2 * suc k ≡ suc (suc (2 * k)) = omega arith in
    let f : 2 * suc k + 1 ≡ suc (suc (2 * k + 1)) = omega arith in
    λ i. (slice_index (x ∷ y ∷ words) (e i), slice_index (x ∷ y ∷ words) (f i))

-- points of the first list, and past it
point_at-append : (xs ys : List ℕ) (n k : ℕ) → length xs ≡ 2 * n → k < n → point_at (xs ++ ys) k ≡ point_at xs k
point_at-append xs ys n k e h =
    λ i. (get_or-append xs ys 0 (2 * k) (omega (arith, e)) i, get_or-append xs ys 0 (2 * k + 1) (omega (arith, e)) i)

point_at-append-add : (xs ys : List ℕ) (n k : ℕ) → length xs ≡ 2 * n → point_at (xs ++ ys) (n + k) ≡ point_at ys k
point_at-append-add xs ys n k e =
    let f : 2 * (n + k) ≡ length xs + 2 * k = omega (arith, e) in
    let g : 2 * (n + k) + 1 ≡ length xs + (2 * k + 1) = omega (arith, e) in
    λ i. (
      (ap (λ (j : ℕ). slice_index (xs ++ ys) j) f ∙ get_or-append-add xs ys (2 * k) 0) i,
      (ap (λ (j : ℕ). slice_index (xs ++ ys) j) g ∙ get_or-append-add xs ys (2 * k + 1) 0) i,
    )

pub run_length : (n : ℕ) (base p : ℕ × ℕ) → length (run n base p) ≡ 2 * n
unfolding run
run_length zero base p = refl
run_length (suc n) base p = let e = run_length n base (plus words31 base p) in omega (arith, e)

pub window_length : (window : ℕ) (base : ℕ × ℕ) → length (window_words window base) ≡ 2 * digits_of window
window_length window base = run_length (digits_of window) base (zero_point words31)

-- point i of a run that starts with j times its base
run_at : (n j i : ℕ) (base : ℕ × ℕ) → i < n → point_at (run n base (multiple words31 j base)) i ≡ multiple words31 (j + i) base
unfolding run multiple
run_at zero j i base h = absurd (N.not-suc-le-zero h)
run_at (suc n) j zero base h = ap (λ (k : ℕ). multiple words31 k base) (sym (N.add-zero j))
run_at (suc n) j (suc i) base h =
    point_at_cons (multiple words31 j base).0 (multiple words31 j base).1 (run n base (multiple words31 (suc j) base)) i
    ∙ run_at n (suc j) i base (N.le_of_suc-le-suc h) ∙ ap (λ (k : ℕ). multiple words31 k base) (N.suc-add j i ∙ sym (N.add-suc j i))

run_start : (n i : ℕ) (base : ℕ × ℕ) → i < n → point_at (run n base (zero_point words31)) i ≡ multiple words31 i base
unfolding multiple
run_start n i base h = run_at n 0 i base h ∙ ap (λ (k : ℕ). multiple words31 k base) (N.zero-add i)

-- window v + w, digit d, among n windows from v on
window_at : (n v w d : ℕ) (base : ℕ × ℕ) → v + n ≤ windows → w < n → d < digits_of (v + w)
    → point_at (windows_from n v base) (place w d) ≡ multiple words31 (d * digits ^ w) base
unfolding windows_from
window_at zero v w d base l k h = absurd (N.not-suc-le-zero k)
window_at (suc n) v zero d base l k h =
    ap (point_at (window_words v base ++ windows_from n (suc v) (next_base v base))) (N.zero-add d)
    ∙ point_at-append (window_words v base) (windows_from n (suc v) (next_base v base)) (digits_of v) d (window_length v base) here
    ∙ run_start (digits_of v) d base here ∙ ap (λ (m : ℕ). multiple words31 m base) (sym (N.mul-one d))
  where
    here : d < digits_of v
    here = subst (λ (w : ℕ). d < digits_of w) (N.add-zero v) h
window_at (suc n) v (suc w) d base l k h =
    ap (λ (m : ℕ). point_at (windows_from (suc n) v base) m) past
    ∙ point_at-append-add (window_words v base) (windows_from n (suc v) (next_base v base)) (digits_of v) (place w d) (window_length v base)
    ∙ window_at n (suc v) w d (next_base v base) (omega arith) (N.le_of_suc-le-suc k) there
    ∙ ap (λ (m : ℕ). multiple words31 (d * digits ^ w) (multiple words31 m base)) full
    ∙ sym (multiple-mul words31 m31 m31_representation (d * digits ^ w) digits base)
    ∙ ap (λ (n : ℕ). multiple words31 n base) (N.mul_assoc d (digits ^ w) digits ∙ ap (λ (n : ℕ). d * n) (sym (N.pow-suc digits w)))
  where
    full : digits_of v ≡ digits
    full = digits_before_last v (omega arith)

    past : place (suc w) d ≡ digits_of v + place w d
    past = omega (arith, full)

    there : d < digits_of (suc v + w)
    there = subst (λ (w : ℕ). d < digits_of w) (N.add-suc v w ∙ sym (N.suc-add v w)) h

-- the rule, proved once: a list that is the computed one follows it
pub table_rule : (table : List ℕ) → table ≡ table_words → FollowsRule table
unfolding table_words
table_rule table e w d t =
    ap (λ (words : List ℕ). point_at words (place w d)) e ∙ window_at windows 0 w d generator (omega arith) t.is_window from_zero
  where
    from_zero : d < digits_of (0 + w)
    from_zero = subst (λ (w : ℕ). d < digits_of w) (sym (N.zero-add w)) t.is_digit

windows-length : (n v : ℕ) (base : ℕ × ℕ) → v + suc n ≡ windows → length (windows_from (suc n) v base) ≡ 2 * (digits * n + last_digits)
unfolding windows_from
windows-length zero v base e =
    omega (arith, length-append (window_words v base) [], window_length v base, digits_last v (omega arith))
windows-length (suc n) v base e =
    omega (
      arith,
      length-append (window_words v base) (windows_from (suc n) (suc v) (next_base v base)),
      window_length v base,
      digits_before_last v (omega arith),
      windows-length n (suc v) (next_base v base) (omega arith),
    )

pub table_length_lem : length table_words ≡ table_length
unfolding table_words
table_length_lem = windows-length (windows - 1) 0 generator refl

-- The computed table, by the contract of `point_table::compute`, and the constant one, by the type of `points`: both follow the rule by
-- the same law, and they are one list.
pub record BothTables (computed constant : List ℕ) : Type 0 where
  pub computed_rule : FollowsRule computed
  pub constant_rule : FollowsRule constant
  pub same : computed ≡ constant

pub both_tables : (computed constant : List ℕ) → computed ≡ table_words → constant ≡ table_words → BothTables computed constant
both_tables computed constant e f = record {
  computed_rule = table_rule computed e;
  constant_rule = table_rule constant f;
  same = e ∙ sym f;
}
