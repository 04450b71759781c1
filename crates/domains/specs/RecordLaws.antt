-- A record passes its checks exactly where it fits.
use Rattle.std.specs.Prelude.{ℕ, ◌≤◌, ◌≡◌, true, ◌++◌, ltb, eqb}
use Rattle.std.proofs.Common.{ap, arith, leb-true, ltb-true, eqb-true, le-leb, lt-ltb, eq-eqb}
use Rattle.std.proofs.Math.Bool.{and-eq-true_iff}
use Rattle.algebra.specs.M31.{P}
use Rattle.fields.specs.Check.{need}
use Rattle.fields.specs.CheckLaws.{Hold, hold_both, hold_split}
use Rattle.fields.specs.LogSize.{is_log_size}
use Rattle.fields.specs.LogSizeLaws.{log_size_passes, log_size_fits_lem}
use Rattle.fields.specs.declared.refusal.Refusal.TheVariants.{LogSize}
use Rattle.fields.specs.M31.{m31_field}
use Rattle.fields.specs.declared.m31.M31.{M31}
use Rattle.circle.specs.CirclePoint.{reduced}
use Rattle.circle.specs.Point.{Reduced, point_of, of_point}
use Rattle.circle.specs.Point as C
use Rattle.circle.specs.declared.point.CirclePoint.{CirclePoint}
use Rattle.circle.specs.declared.index.CirclePointIndex.{CirclePointIndex}
use Rattle.circle.specs.Index.{IsIndex, is_index, in_range, index_point}
use Rattle.domains.specs.declared.coset.Coset.{Coset}
use Rattle.domains.specs.declared.canonic.CanonicCoset.{CanonicCoset}
use Rattle.domains.specs.declared.iterator.CosetIterator.{CosetIterator}
use Rattle.domains.specs.Record.{log_size, indices, words, same_point, point_of_index, points, indices_and_points}
use Rattle.domains.specs.Record.{check, check_canonic, check_two, check_with_index, Fits, FitsCanonic}
use Rattle.domains.specs.Iterator as T

-- ---- records that fit pass

pub index_passes : (k : CirclePointIndex) → IsIndex k → is_index k ≡ true
index_passes k h = lt-ltb k.0 _ h

point_passes : (p : CirclePoint M31) → Reduced p → reduced m31_field p ≡ true
point_passes p h = (and-eq-true_iff (ltb p.x.0 P) (ltb p.y.0 P)).1
    (lt-ltb p.x.0 P h.0, lt-ltb p.y.0 P h.1)

agreeing_passes : (p : CirclePoint M31) (k : CirclePointIndex) → point_of p ≡ index_point k.0
    → same_point p (of_point (index_point k.0)) ≡ true
agreeing_passes p k e = (and-eq-true_iff (eqb p.x.0 (index_point k.0).0) (eqb p.y.0 (index_point k.0).1)).1
    (eq-eqb _ _ (ap (λ (t : ℕ × ℕ). t.0) e), eq-eqb _ _ (ap (λ (t : ℕ × ℕ). t.1) e))

module _ (c : Coset) (f : Fits c) where
  size_holds : Hold (log_size c)
  size_holds = (le-leb c.log_size 31 f.log_size_fits, tt)

  indices_hold : Hold (indices c)
  indices_hold =
      hold_both (in_range c.initial_index) (in_range c.step_size)
      (index_passes c.initial_index f.initial_index_fits, tt) (index_passes c.step_size f.step_size_fits, tt)

  words_hold : Hold (words c)
  words_hold =
      hold_both (C.words c.initial) (C.words c.step)
      (point_passes c.initial f.initial_reduced, tt) (point_passes c.step f.step_reduced, tt)

  points_hold : Hold (points c)
  points_hold =
      hold_both (point_of_index c.initial c.initial_index) (point_of_index c.step c.step_size)
      (agreeing_passes c.initial c.initial_index f.initial_agrees, tt)
      (agreeing_passes c.step c.step_size f.step_agrees, tt)

  rest_holds : Hold (indices_and_points c)
  rest_holds = hold_both (indices c) (words c ++ points c) indices_hold (hold_both (words c) (points c) words_hold points_hold)

  pub fits_hold : Hold (check c)
  unfolding check
  fits_hold = hold_both (log_size c) (indices_and_points c) size_holds rest_holds

pub canonic_hold : (c : CanonicCoset) → FitsCanonic c → Hold (check_canonic c)
unfolding check_canonic
canonic_hold c f =
    hold_both (need (is_log_size c.coset.log_size) LogSize) (indices_and_points c.coset)
    (log_size_passes c.coset.log_size f.least f.most, tt) (rest_holds c.coset f.coset)

-- two records that fit
pub two_hold : (c d : Coset) → Fits c → Fits d → Hold (check_two c d)
two_hold c d f g = hold_both (check c) (check d) (fits_hold c f) (fits_hold d g)

pub with_index_hold : (c : Coset) (k : CirclePointIndex) → Fits c → IsIndex k → Hold (check_with_index c k)
with_index_hold c k f h = hold_both (check c) (in_range k) (fits_hold c f) (index_passes k h, tt)

-- ---- records that pass fit

pub hold_index : (k : CirclePointIndex) → Hold (in_range k) → IsIndex k
hold_index k h = ltb-true k.0 _ h.0

point_fits : (p : CirclePoint M31) → reduced m31_field p ≡ true → Reduced p
point_fits p e =
    let both = (and-eq-true_iff (ltb p.x.0 P) (ltb p.y.0 P)).0 e in
    (ltb-true p.x.0 P both.0, ltb-true p.y.0 P both.1)

pub indices_fit : (c : Coset) → Hold (indices c) → (IsIndex c.initial_index) × (IsIndex c.step_size)
indices_fit c h =
    let both = hold_split (in_range c.initial_index) (in_range c.step_size) h in
    (hold_index c.initial_index both.0, hold_index c.step_size both.1)

words_fit : (c : Coset) → Hold (words c) → (Reduced c.initial) × (Reduced c.step)
words_fit c h =
    let both = hold_split (C.words c.initial) (C.words c.step) h in
    (point_fits c.initial both.0.0, point_fits c.step both.1.0)

passing_agrees : (p : CirclePoint M31) (k : CirclePointIndex) → same_point p (of_point (index_point k.0)) ≡ true
    → point_of p ≡ index_point k.0
passing_agrees p k h =
    let both = (and-eq-true_iff (eqb p.x.0 (index_point k.0).0) (eqb p.y.0 (index_point k.0).1)).0 h in
    λ i. (eqb-true p.x.0 (index_point k.0).0 both.0 i, eqb-true p.y.0 (index_point k.0).1 both.1 i)

pub all_fit : (c : Coset) → c.log_size ≤ 31 → Hold (indices_and_points c) → Fits c
all_fit c h rest =
    let first = hold_split (indices c) (words c ++ points c) rest in
    let second = hold_split (words c) (points c) first.1 in
    let agree = hold_split (point_of_index c.initial c.initial_index) (point_of_index c.step c.step_size) second.1 in
    record {
      log_size_fits = h;
      initial_index_fits = (indices_fit c first.0).0;
      step_size_fits = (indices_fit c first.0).1;
      initial_reduced = (words_fit c second.0).0;
      step_reduced = (words_fit c second.0).1;
      initial_agrees = passing_agrees c.initial c.initial_index agree.0.0;
      step_agrees = passing_agrees c.step c.step_size agree.1.0;
    }

size_fits : (c : Coset) → Hold (log_size c) → c.log_size ≤ 31
size_fits c h = leb-true c.log_size 31 h.0

pub hold_fits : (c : Coset) → Hold (check c) → Fits c
unfolding check
hold_fits c h =
    let both = hold_split (log_size c) (indices_and_points c) h in
    all_fit c (size_fits c both.0) both.1

-- the second of two
pub hold_second : (c d : Coset) → Hold (check_two c d) → Fits d
hold_second c d h = hold_fits d (hold_split (check c) (check d) h).1

pub hold_with_index : (c : Coset) (k : CirclePointIndex) → Hold (check_with_index c k) → (Fits c) × (IsIndex k)
hold_with_index c k h =
    let both = hold_split (check c) (in_range k) h in
    (hold_fits c both.0, hold_index k both.1)

pub hold_canonic : (c : CanonicCoset) → Hold (check_canonic c) → FitsCanonic c
unfolding check_canonic
hold_canonic c h =
    let n = c.coset.log_size in
    let both = hold_split (need (is_log_size n) LogSize) (indices_and_points c.coset) h in
    let range = log_size_fits_lem n both.0.0 in
    record { coset = all_fit c.coset (omega arith) both.1; least = range.0; most = range.1 }

pub hold_iterator : (it : CosetIterator) → Hold (T.check it) → (IsIndex it.cur) × (IsIndex it.step)
hold_iterator it h =
    let both = hold_split (in_range it.cur) (in_range it.step) h in
    (hold_index it.cur both.0, hold_index it.step both.1)
