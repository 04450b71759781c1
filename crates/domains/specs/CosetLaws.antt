-- Laws of cosets: those that the library makes fit, and doubled are such cosets again; the conjugate's indices are the negatives.
use Rattle.std.specs.Prelude.{ℕ, zero, suc, ◌+◌, ◌-◌, ◌*◌, ◌/◌, ◌%◌, ◌^◌, ◌≤◌, ◌≡◌, refl, true}
use Rattle.std.proofs.Common.{sym, ◌∙◌, ap, arith, lit<, le-leb, eq-eqb}
use Rattle.std.proofs.Math.Nat as N
use Rattle.algebra.specs.M31.{m31}
use Rattle.algebra.specs.ZMod.{mod-mul-mod}
use Rattle.algebra.specs.Doubling.{iterate, double}
use Rattle.fields.specs.Words.{words31}
use Rattle.fields.specs.Inverse.{m31_representation}
use Rattle.circle.specs.Point.{of_point, point_of}
use Rattle.circle.specs.Points.{plus-reduced}
use Rattle.circle.specs.IndexPoints.{index_below, index_double}
use Rattle.circle.specs.Index.{of_index, IsIndex, index_point, neg_index, subgroup_gen}
use Rattle.domains.specs.declared.coset.Coset.{Coset}
use Rattle.domains.specs.Record.{Fits, FitsCanonic}
use Rattle.domains.specs.Coset.{coset_of, index_at, doubled, same_coset, is_doubling_of, shifted, conjugated}
use Rattle.domains.specs.Canonic.{canonic_of, half_of}

-- ---- cosets that the library makes

pub subgroup_gen_index : (n : ℕ) → IsIndex (of_index (subgroup_gen n))
subgroup_gen_index n = omega arith

-- only that of log size 0 is reduced
pub subgroup_gen_power : (n : ℕ) → 1 ≤ n → subgroup_gen n ≡ 2 ^ (31 - n)
subgroup_gen_power n h = N.mod-eq_of_lt (omega (arith, N.pow-le-pow_right {n = 2} (lit< tt) {i = 31 - n} {j = 30} (omega arith)))

pub made_fits : (k n : ℕ) → IsIndex (of_index k) → n ≤ 31 → Fits (coset_of k n)
unfolding coset_of
made_fits k n h l = record {
  log_size_fits = l;
  initial_index_fits = h;
  step_size_fits = subgroup_gen_index n;
  initial_reduced = index_below k;
  step_reduced = index_below (subgroup_gen n);
  initial_agrees = refl;
  step_agrees = refl;
}

pub canonic_of_fits : (n : ℕ) → 1 ≤ n → n ≤ 30 → FitsCanonic (canonic_of n)
unfolding canonic_of coset_of
canonic_of_fits n lo hi =
    record { coset = made_fits (subgroup_gen (n + 1)) n (subgroup_gen_index (n + 1)) (omega arith); least = lo; most = hi }

pub half_of_fits : (n : ℕ) → n ≤ 30 → Fits (half_of n)
unfolding half_of
half_of_fits n h = made_fits (subgroup_gen (n - 1 + 2)) (n - 1) (subgroup_gen_index (n - 1 + 2)) (omega arith)

-- the step may be taken unreduced
pub made_index : (k n i : ℕ) → index_at (coset_of k n) i ≡ (k + 2 ^ (31 - n) * i) % 2 ^ 31
unfolding index_at coset_of
made_index k n i =
    sym (N.add-mod-mod k (subgroup_gen n * i) (2 ^ 31)) ∙ ap (λ (t : ℕ). (k + t) % 2 ^ 31) (mod-mul-mod (2 ^ (31 - n)) i (2 ^ 31))
    ∙ N.add-mod-mod k (2 ^ (31 - n) * i) (2 ^ 31)

-- the point of an index, doubled, is that of the index, doubled
double_agrees : (p : ℕ × ℕ) (k : ℕ) → p ≡ index_point k → double words31 p ≡ index_point ((k * 2) % 2 ^ 31)
double_agrees p k e = ap (double words31) e ∙ index_double k ((k * 2) % 2 ^ 31) (k * 2 / 2 ^ 31) (omega arith)

-- doubling gives the coset from twice the first index on, of half as many points
pub made_doubled : (k n : ℕ) → n ≤ 30 → doubled (coset_of k (suc n)) ≡ coset_of ((k * 2) % 2 ^ 31) n
unfolding doubled coset_of
made_doubled k n h = λ i. record {
  initial_index = of_index ((k * 2) % 2 ^ 31);
  initial = of_point (double_agrees (index_point k) k refl i);
  step_size = of_index (twice_step i);
  step = of_point ((double_agrees (index_point (subgroup_gen (suc n))) (subgroup_gen (suc n)) refl ∙ ap index_point twice_step) i);
  log_size = one_less i;
}
  where
    one_less : suc n - 1 ≡ n
    one_less = omega arith

    twice_step : (subgroup_gen (suc n) * 2) % 2 ^ 31 ≡ subgroup_gen n
    twice_step =
        let fewer : suc (31 - suc n) ≡ 31 - n = omega arith in
        mod-mul-mod (2 ^ (31 - suc n)) 2 (2 ^ 31)
        ∙ ap (λ (t : ℕ). t % 2 ^ 31) (N.mul_comm (2 ^ (31 - suc n)) 2 ∙ sym (N.pow-succ' 2 (31 - suc n)) ∙ ap (λ (t : ℕ). 2 ^ t) fewer)

same_itself : (c : Coset) → same_coset c c ≡ true
unfolding same_coset
same_itself c =
    rw (
      eq-eqb c.initial_index.0 c.initial_index.0 refl,
      eq-eqb c.step_size.0 c.step_size.0 refl,
      eq-eqb c.initial.x.0 c.initial.x.0 refl,
      eq-eqb c.initial.y.0 c.initial.y.0 refl,
      eq-eqb c.step.x.0 c.step.x.0 refl,
      eq-eqb c.step.y.0 c.step.y.0 refl,
      eq-eqb c.log_size c.log_size refl,
    )

-- and is_doubling_of says so
pub made_doubling : (k n : ℕ) → n ≤ 30 → is_doubling_of (coset_of ((k * 2) % 2 ^ 31) n) (coset_of k (suc n)) ≡ true
unfolding is_doubling_of iterate coset_of
made_doubling k n h =
    let once : suc n - n ≡ 1 = omega arith in
    rw (le-leb n (suc n) (omega arith))
    (ap (λ (t : ℕ). same_coset (coset_of ((k * 2) % 2 ^ 31) n) (iterate t doubled (coset_of k (suc n)))) once
    ∙ ap (same_coset (coset_of ((k * 2) % 2 ^ 31) n)) (made_doubled k n h) ∙ same_itself (coset_of ((k * 2) % 2 ^ 31) n))

-- ---- cosets that are made of others

pub doubled_fits : (c : Coset) → Fits c → Fits (doubled c)
unfolding doubled
doubled_fits c f = record {
  log_size_fits = omega (arith, f.log_size_fits);
  initial_index_fits = omega arith;
  step_size_fits = omega arith;
  initial_reduced = plus-reduced words31 m31 m31_representation (point_of c.initial) (point_of c.initial);
  step_reduced = plus-reduced words31 m31 m31_representation (point_of c.step) (point_of c.step);
  initial_agrees = double_agrees (point_of c.initial) c.initial_index.0 f.initial_agrees;
  step_agrees = double_agrees (point_of c.step) c.step_size.0 f.step_agrees;
}

pub doublings_fit : (n : ℕ) (c : Coset) → Fits c → Fits (iterate n doubled c)
unfolding iterate
doublings_fit zero c f = f
doublings_fit (suc n) c f = doublings_fit n (doubled c) (doubled_fits c f)

pub shifted_fits : (c : Coset) (k : ℕ) → Fits c → Fits (shifted c k)
unfolding shifted
shifted_fits c k f = record {
  log_size_fits = f.log_size_fits;
  initial_index_fits = omega arith;
  step_size_fits = f.step_size_fits;
  initial_reduced = index_below ((c.initial_index.0 + k) % 2 ^ 31);
  step_reduced = f.step_reduced;
  initial_agrees = refl;
  step_agrees = f.step_agrees;
}

-- ---- the indices of a coset

pub index_at_index : (c : Coset) (i : ℕ) → IsIndex (of_index (index_at c i))
unfolding index_at
index_at_index c i = omega arith

pub index_at-zero : (c : Coset) → Fits c → index_at c 0 ≡ c.initial_index.0
unfolding index_at
index_at-zero c f = omega (arith, f.initial_index_fits)

-- ---- the conjugate

-- an index and its negative add up to a multiple of 2^31
opposite_sum : (k : ℕ) → IsIndex (of_index k) → k + neg_index k ≡ 2 ^ 31 * ((k + neg_index k) / 2 ^ 31)
opposite_sum k h = omega arith

opposite_mod : (x y turns : ℕ) → x + y ≡ 2 ^ 31 * turns → y % 2 ^ 31 ≡ neg_index (x % 2 ^ 31)
opposite_mod x y turns e = omega arith

pub neg_index_lem : (k : ℕ) → IsIndex (of_index (neg_index k))
neg_index_lem k = omega arith

pub conjugate_fits : (c : Coset) → c.log_size ≤ 31 → Fits (conjugated c)
unfolding conjugated
conjugate_fits c h = record {
  log_size_fits = h;
  initial_index_fits = neg_index_lem c.initial_index.0;
  step_size_fits = neg_index_lem c.step_size.0;
  initial_reduced = index_below (neg_index c.initial_index.0);
  step_reduced = index_below (neg_index c.step_size.0);
  initial_agrees = refl;
  step_agrees = refl;
}

pub conjugate_index : (c : Coset) (i : ℕ) → Fits c → index_at (conjugated c) i ≡ neg_index (index_at c i)
unfolding index_at conjugated
conjugate_index c i f =
    opposite_mod (k + s * i) (neg_index k + neg_index s * i) (turns k + turns s * i)
    (opposite_indices_sum (opposite_sum k f.initial_index_fits) (opposite_sum s f.step_size_fits))
  where
    k : ℕ
    k = c.initial_index.0

    s : ℕ
    s = c.step_size.0

    turns : ℕ → ℕ
    turns j = (j + neg_index j) / 2 ^ 31

    opposite_indices_sum : k + neg_index k ≡ 2 ^ 31 * turns k → s + neg_index s ≡ 2 ^ 31 * turns s
        → k + s * i + (neg_index k + neg_index s * i) ≡ 2 ^ 31 * (turns k + turns s * i)
    opposite_indices_sum e f = omega (arith, ap (λ (t : ℕ). t * i) f)
