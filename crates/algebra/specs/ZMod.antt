-- The integers modulo m, as numbers below m.
use Rattle.std.specs.Prelude.{ℕ, zero, ◌+◌, ◌*◌, ◌-◌, ◌/◌, ◌%◌, ◌<◌, ◌≤◌, ◌≡◌, T, ltb}
use Rattle.std.proofs.Math.Path.{refl, sym, ap}
use Rattle.std.proofs.Common.{◌∙◌, arith, ltb→lt, lt→ltb}
use mathlib.Core.HLevel.{is_prop→PathP}
use Rattle.std.proofs.Math.Nat as N
use Rattle.std.proofs.Math.Decide.{ℕ_discrete}
use Rattle.std.proofs.Math.Dec.{T_prop}
use Rattle.algebra.specs.Ring.{Ops, Laws}
use Rattle.algebra.specs.Ring as R

-- the bound is a computed test, so that closed elements are equal where their numbers are
pub record Z (m : ℕ) : Type 0 where
  pub val : ℕ
  pub low : T (ltb val m)

pub val_below : {m : ℕ} (a : Z m) → a.val < m
val_below {m} a = ltb→lt a.val m a.low

pub Z_path : {m : ℕ} (a b : Z m) → a.val ≡ b.val → a ≡ b
Z_path {m} a b p =
    λ i. record { val = p i; low = is_prop→PathP (λ j. T (ltb (p j) m)) (λ j. T_prop (ltb (p j) m)) a.low b.low i }

pub Z_discrete : {m : ℕ} → Discrete (Z m)
unfolding ℕ_discrete
Z_discrete a b = go (ℕ_discrete a.val b.val)
  where
    go : Dec (a.val ≡ b.val) → Dec (a ≡ b)
    go (yes p) = yes (Z_path a b p)
    go (no np) = no (λ e. np (ap (λ t. t.val) e))

pub mod-mul-mod : (a b m : ℕ) → (a % m * b) % m ≡ (a * b) % m
mod-mul-mod a b m =
    sym (ap (λ t. t % m)
    (ap (λ t. t * b) (sym (N.div-add-mod a m)) ∙ N.add-mul (m * (a / m)) (a % m) b
    ∙ ap (λ t. t + a % m * b) (N.mul_assoc m (a / m) b))
    ∙ N.mul-add-mod_self_left m (a / m * b) (a % m * b))

pub mul-mod-mod : (a b m : ℕ) → (a * (b % m)) % m ≡ (a * b) % m
mul-mod-mod a b m = ap (λ t. t % m) (N.mul_comm a (b % m)) ∙ mod-mul-mod b a m ∙ ap (λ t. t % m) (N.mul_comm b a)

module _ (m : ℕ) (pos : zero < m) where
  -- the class of a number
  unfoldable pub residue : ℕ → Z m
  residue n = record { val = n % m; low = lt→ltb (n % m) m (N.mod-lt n pos) }

  unfoldable pub zadd : Z m → Z m → Z m
  zadd a b = residue (a.val + b.val)

  unfoldable pub zmul : Z m → Z m → Z m
  zmul a b = residue (a.val * b.val)

  unfoldable pub zneg : Z m → Z m
  zneg a = residue (m - a.val)

  abbrev pub zmod : Ops
  zmod = record { El = Z m; zero = residue 0; one = residue 1; add = zadd; mul = zmul; neg = zneg }

  pub zmod_laws : Laws zmod
  unfolding residue zadd zmul zneg
  zmod_laws = record {
    add_assoc = λ a b c. Z_path _ _
        (N.mod-add-mod (a.val + b.val) m c.val ∙ ap (λ t. t % m) (N.add_assoc a.val b.val c.val)
        ∙ sym (N.add-mod-mod a.val (b.val + c.val) m));
    add_comm = λ a b. ap residue (N.add_comm a.val b.val);
    add-zero = λ a. Z_path _ _ (N.add-mod-mod a.val 0 m ∙ ap (λ t. t % m) (N.add-zero a.val) ∙ N.mod-eq_of_lt (val_below a));
    add-neg = λ a.
        let h : a.val < m = val_below a in
        Z_path _ _ (N.add-mod-mod a.val (m - a.val) m ∙ ap (λ t. t % m) (omega arith) ∙ N.mod_self m ∙ sym (N.zero-mod m));
    mul_assoc = λ a b c. Z_path _ _
        (mod-mul-mod (a.val * b.val) c.val m ∙ ap (λ t. t % m) (N.mul_assoc a.val b.val c.val)
        ∙ sym (mul-mod-mod a.val (b.val * c.val) m));
    mul_comm = λ a b. ap residue (N.mul_comm a.val b.val);
    mul-one = λ a. Z_path _ _ (mul-mod-mod a.val 1 m ∙ ap (λ t. t % m) (N.mul-one a.val) ∙ N.mod-eq_of_lt (val_below a));
    mul-add = λ a b c. Z_path _ _
        (mul-mod-mod a.val (b.val + c.val) m ∙ ap (λ t. t % m) (N.mul-add a.val b.val c.val)
        ∙ N.add-mod (a.val * b.val) (a.val * c.val) m);
  }

  -- the class map keeps the operations
  pub residue-mod : (n : ℕ) → residue (n % m) ≡ residue n
  unfolding residue
  residue-mod n = Z_path _ _ (N.mod-mod n m)

  pub residue-add : (a b : ℕ) → residue (a + b) ≡ zmod.add (residue a) (residue b)
  unfolding residue zadd
  residue-add a b = Z_path _ _ (N.add-mod a b m)

  pub residue-mul : (a b : ℕ) → residue (a * b) ≡ zmod.mul (residue a) (residue b)
  unfolding residue zmul
  residue-mul a b = Z_path _ _ (sym (mod-mul-mod a b m) ∙ sym (mul-mod-mod (a % m) b m))

  pub residue_self : residue m ≡ residue 0
  unfolding residue
  residue_self = Z_path _ _ (N.mod_self m ∙ sym (N.zero-mod m))

  pub residue-neg : (a : ℕ) → a ≤ m → residue (m - a) ≡ zmod.neg (residue a)
  residue-neg a h =
      R.neg_unique zmod zmod_laws (residue a) (residue (m - a)) (sym (residue-add a (m - a)) ∙ ap residue (omega arith) ∙ residue_self)

  -- the class map is onto, and one-to-one below m
  pub residue-val : (a : Z m) → residue a.val ≡ a
  unfolding residue
  residue-val a = Z_path _ _ (N.mod-eq_of_lt (val_below a))

  pub val-residue : (n : ℕ) → (residue n).val ≡ n % m
  unfolding residue
  val-residue n = refl

  pub residue_injective : (a b : ℕ) → a < m → b < m → residue a ≡ residue b → a ≡ b
  residue_injective a b p q e =
      sym (N.mod-eq_of_lt p) ∙ sym (val-residue a) ∙ ap (λ t. t.val) e ∙ val-residue b ∙ N.mod-eq_of_lt q
