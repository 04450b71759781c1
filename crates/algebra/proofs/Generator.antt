-- G = (2, 1268011823) lies on the circle over M31, and its order is exactly 2^31.
use Rattle.std.specs.Prelude.{ℕ, zero, suc, ◌+◌, ◌-◌, ◌*◌, ◌/◌, ◌%◌, ◌^◌, ◌≤◌, ◌<◌, ◌≡◌, refl, [], ◌∷◌, ◌↔◌, ◌⊎◌}
use Rattle.std.proofs.Common.{sym, ◌∙◌, ap, inl, inr, arith, lit<}
use Rattle.std.proofs.Math.Nat as N
use Rattle.std.proofs.Math.Decide.{ℕ_discrete}
use Rattle.std.proofs.Math.Pow as W
use Rattle.algebra.specs.Polynomial.{Expr, :-◌, exprs, v0, v1}
use Rattle.algebra.specs.Solver.{solve_pair}
use Rattle.algebra.specs.Power.{pow_by_squaring, pow_by_squaring_ok}
use Rattle.algebra.specs.ZMod.{Z, residue, zadd, zmul, zneg, residue_injective}
use Rattle.algebra.specs.M31.{P, P_pos, m31, m31_laws}
use Rattle.algebra.specs.Extension.{conjugate}
use Rattle.algebra.specs.Field.{square_equal}
use Rattle.algebra.specs.Tower.{complex, cm31, complex_laws}
use Rattle.algebra.proofs.Tower.{cm31_field}
use Rattle.algebra.specs.Circle.{zero_point, multiple, OnCircle, plus, plus_assoc, plus_comm, plus-zero, multiple-pow}
use Rattle.algebra.specs.Circle.{plus-mul, multiple-two, multiple-add, multiple-mul, multiple-zero_point, on_multiple, plus-conjugate}
use Rattle.algebra.proofs.Frobenius.{circle_order}
use Rattle.algebra.specs.Generator.{G}

pub G_on : OnCircle m31 G
unfolding residue zadd zmul
G_on = refl

-- a multiple of G below 2^32 as a computation
G_multiple_computed : (k : ℕ) → k < 2 ^ 32 → multiple m31 k G ≡ pow_by_squaring cm31 32 G k
G_multiple_computed k h = multiple-pow m31 m31_laws k G ∙ sym (pow_by_squaring_ok cm31 (complex_laws m31 m31_laws) 32 G k h)

half_computed : pow_by_squaring cm31 32 G (2 ^ 30) ≡ (m31.neg m31.one, m31.zero)
unfolding pow_by_squaring residue zadd zmul zneg
half_computed = refl

-- 2^30 G = (-1, 0)
pub G_half : multiple m31 (2 ^ 30) G ≡ (m31.neg m31.one, m31.zero)
G_half = G_multiple_computed (2 ^ 30) (lit< tt) ∙ half_computed

quarter_computed : pow_by_squaring cm31 32 G (2 ^ 29) ≡ (m31.zero, m31.neg m31.one)
unfolding pow_by_squaring residue zadd zmul zneg
quarter_computed = refl

-- 2^29 G = (0, -1)
pub G_quarter : multiple m31 (2 ^ 29) G ≡ (m31.zero, m31.neg m31.one)
G_quarter = G_multiple_computed (2 ^ 29) (lit< tt) ∙ quarter_computed

-- (k + 2^30) G = (-x, -y), where k G = (x, y)
pub G_antipode : (k : ℕ) → multiple m31 (k + 2 ^ 30) G ≡ cm31.neg (multiple m31 k G)
G_antipode k = multiple-add m31 m31_laws k (2 ^ 30) G ∙ ap (plus m31 (multiple m31 k G)) G_half ∙ plus-half (multiple m31 k G)
  where
    plus-half : (p : Z P × Z P) → plus m31 p (m31.neg m31.one, m31.zero) ≡ cm31.neg p
    plus-half p =
        solve_pair m31 m31_laws (p.0 ∷ p.1 ∷ []) (plus exprs (v0, v1) (:- Expr.:1, Expr.:0)) ((complex exprs).neg (v0, v1)) (tt, tt)

-- the double is 2k G only of k G and of its antipode (k + 2^30) G
pub G_halved : (k : ℕ) (z : Z P × Z P) → plus m31 z z ≡ multiple m31 (2 * k) G
    → (z ≡ multiple m31 k G) ⊎ (z ≡ multiple m31 (k + 2 ^ 30) G)
G_halved k z e =
    pick (square_equal cm31 cm31_field z (multiple m31 k G)
    (sym (plus-mul m31 m31_laws z z) ∙ e ∙ multiple-mul m31 m31_laws 2 k G ∙ multiple-two m31 m31_laws (multiple m31 k G)
    ∙ plus-mul m31 m31_laws (multiple m31 k G) (multiple m31 k G)))
  where
    pick : (z ≡ multiple m31 k G) ⊎ (z ≡ cm31.neg (multiple m31 k G)) → (z ≡ multiple m31 k G) ⊎ (z ≡ multiple m31 (k + 2 ^ 30) G)
    pick (inl f) = inl f
    pick (inr f) = inr (f ∙ sym (G_antipode k))

G_whole : multiple m31 (2 ^ 31) G ≡ zero_point m31
G_whole = circle_order G G_on

-- (2^31 - k) G = (x, -y), where k G = (x, y)
pub G_conjugate : (k : ℕ) → k ≤ 2 ^ 31 → multiple m31 (2 ^ 31 - k) G ≡ conjugate m31 (multiple m31 k G)
G_conjugate k h =
    sym (plus-zero m31 m31_laws b) ∙ ap (plus m31 b) (sym (plus-conjugate m31 m31_laws a (on_multiple m31 m31_laws k G G_on)))
    ∙ sym (plus_assoc m31 m31_laws b a (conjugate m31 a))
    ∙ ap (λ t. plus m31 t (conjugate m31 a))
    (sym (multiple-add m31 m31_laws (2 ^ 31 - k) k G) ∙ ap (λ (t : ℕ). multiple m31 t G) (N.sub-add_cancel h) ∙ G_whole)
    ∙ plus_comm m31 m31_laws (zero_point m31) (conjugate m31 a) ∙ plus-zero m31 m31_laws (conjugate m31 a)
  where
    a : Z P × Z P
    a = multiple m31 k G

    b : Z P × Z P
    b = multiple m31 (2 ^ 31 - k) G

half_nonzero : ¬ (multiple m31 (2 ^ 30) G ≡ zero_point m31)
unfolding residue zneg
half_nonzero e =
    let w : ◌≡◌ {A = ℕ} 2147483646 1 =
    residue_injective P P_pos 2147483646 1 (lit< tt) (lit< tt) (ap (λ t. t.0) (sym G_half ∙ e)) in
    omega arith

-- a multiple of 2^31 G adds nothing
multiple_shift : (k n : ℕ) → multiple m31 (k + n * 2 ^ 31) G ≡ multiple m31 k G
multiple_shift k n =
    multiple-add m31 m31_laws k (n * 2 ^ 31) G
    ∙ ap (plus m31 (multiple m31 k G))
    (multiple-mul m31 m31_laws n (2 ^ 31) G ∙ ap (multiple m31 n) G_whole ∙ multiple-zero_point m31 m31_laws n)
    ∙ plus-zero m31 m31_laws (multiple m31 k G)

-- if d = 2^k m with m odd and k below 31, then 2^(30 - k) d G = 2^30 G is not zero
quotient_even : (d k m : ℕ) → k ≤ 30 → d ≡ 2 ^ k * m → multiple m31 d G ≡ zero_point m31 → m % 2 ≡ 0
quotient_even d k m l e h = elim (ℕ_discrete (m % 2) 0) [ yes z ↦ z | no f ↦ absurd (half_nonzero (half_is_zero f)) ]
  where
    pow_30_split : 2 ^ (30 - k) * 2 ^ k ≡ 2 ^ 30
    pow_30_split = sym (W.pow-add 2 (30 - k) k) ∙ ap (λ (x : ℕ). 2 ^ x) (N.sub-add_cancel l)

    odd_quotient_multiple : ¬ (m % 2 ≡ 0) → 2 ^ (30 - k) * d ≡ 2 ^ 30 + m / 2 * 2 ^ 31
    odd_quotient_multiple f =
        let w : m ≡ 2 * (m / 2) + 1 = omega arith in
        ap (λ (x : ℕ). 2 ^ (30 - k) * x) e ∙ omega (arith, ap (λ (x : ℕ). x * m) pow_30_split) ∙ ap (λ (x : ℕ). 2 ^ 30 * x) w ∙ omega arith

    half_is_zero : ¬ (m % 2 ≡ 0) → multiple m31 (2 ^ 30) G ≡ zero_point m31
    half_is_zero f =
        sym (multiple_shift (2 ^ 30) (m / 2)) ∙ ap (λ (x : ℕ). multiple m31 x G) (sym (odd_quotient_multiple f))
        ∙ multiple-mul m31 m31_laws (2 ^ (30 - k)) d G ∙ ap (multiple m31 (2 ^ (30 - k))) h ∙ multiple-zero_point m31 m31_laws (2 ^ (30 - k))

zero_multiple_divided : (d : ℕ) → multiple m31 d G ≡ zero_point m31 → (k : ℕ) → k ≤ 31 → (m : ℕ) × (d ≡ 2 ^ k * m)
zero_multiple_divided d h zero l = (d, sym (ap (λ (x : ℕ). x * d) (N.pow-zero 2) ∙ N.one-mul d))
zero_multiple_divided d h (suc k) l =
    let r : (m : ℕ) × (d ≡ 2 ^ k * m) = zero_multiple_divided d h k (omega arith) in
    let w : r.0 ≡ 2 * (r.0 / 2) = omega (arith, quotient_even d k r.0 (omega arith) r.1 h) in (
      r.0 / 2,
      r.1 ∙ ap (λ (x : ℕ). 2 ^ k * x) w ∙ sym (N.mul_assoc (2 ^ k) 2 (r.0 / 2)) ∙ ap (λ (x : ℕ). x * (r.0 / 2)) (sym (N.pow-suc 2 k)),
    )

-- k G is zero exactly where 2^31 divides k
pub G_order : (k : ℕ) → (multiple m31 k G ≡ zero_point m31) ↔ (k % 2 ^ 31 ≡ 0)
G_order k = (down, up)
  where
    down : multiple m31 k G ≡ zero_point m31 → k % 2 ^ 31 ≡ 0
    down h =
        let r : (m : ℕ) × (k ≡ 2 ^ 31 * m) = zero_multiple_divided k h 31 (omega arith) in
        ap (λ (x : ℕ). x % 2 ^ 31) r.1 ∙ N.mul-mod_right (2 ^ 31) r.0

    multiple_of_order : k % 2 ^ 31 ≡ 0 → k ≡ k / 2 ^ 31 * 2 ^ 31
    multiple_of_order e = omega arith

    up : k % 2 ^ 31 ≡ 0 → multiple m31 k G ≡ zero_point m31
    up e =
        ap (λ (x : ℕ). multiple m31 x G) (multiple_of_order e) ∙ multiple-mul m31 m31_laws (k / 2 ^ 31) (2 ^ 31) G
        ∙ ap (multiple m31 (k / 2 ^ 31)) G_whole ∙ multiple-zero_point m31 m31_laws (k / 2 ^ 31)

-- two multiples of G are equal exactly where their counts agree modulo 2^31
pub G_equal : (a b : ℕ) → (multiple m31 a G ≡ multiple m31 b G) ↔ (a % 2 ^ 31 ≡ b % 2 ^ 31)
G_equal a b = (down, up)
  where
    -- b + (2^31 - 1) a copies of G are none
    difference : multiple m31 a G ≡ multiple m31 b G → multiple m31 (b + a * 2147483647) G ≡ zero_point m31
    difference e =
        multiple-add m31 m31_laws b (a * 2147483647) G ∙ ap (λ t. plus m31 t (multiple m31 (a * 2147483647) G)) (sym e)
        ∙ sym (multiple-add m31 m31_laws a (a * 2147483647) G) ∙ (G_order (a + a * 2147483647)).1 (omega arith)

    down : multiple m31 a G ≡ multiple m31 b G → a % 2 ^ 31 ≡ b % 2 ^ 31
    down e = omega (arith, (G_order (b + a * 2147483647)).0 (difference e))

    multiple-mod : (k : ℕ) → multiple m31 k G ≡ multiple m31 (k % 2 ^ 31) G
    multiple-mod k = ap (λ (t : ℕ). multiple m31 t G) (div-mod k) ∙ multiple_shift (k % 2 ^ 31) (k / 2 ^ 31)
      where
        div-mod : (k : ℕ) → k ≡ k % 2 ^ 31 + k / 2 ^ 31 * 2 ^ 31
        div-mod k = omega arith

    up : a % 2 ^ 31 ≡ b % 2 ^ 31 → multiple m31 a G ≡ multiple m31 b G
    up e = multiple-mod a ∙ ap (λ (t : ℕ). multiple m31 t G) e ∙ sym (multiple-mod b)
