-- Montgomery's trick over any units: the steps of both passes, what they leave, and what they count.
use Rattle.std.proofs.Common.{◌≡◌, ℕ, zero, suc, ◌+◌, ◌-◌, ◌*◌, ◌<◌, ◌≤◌, ◌⊎◌, List, length, sym, ap, ◌∙◌, ap₂, inl, inr, arith}
use mathlib.Core.Path.{subst⁻¹}
use native.Mathlib.Nat as N
use native.Mathlib.Decide.{dec_lt}
use Rattle.batch.specs.Layouts.{read_other}
use Rattle.batch.specs.Passes.{Units, IsOne, UnitColumn, Holds, size, at, product, inverses}
use Rattle.batch.specs.PassContracts.{Inverting, BeforeProducts, AfterProducts, BeforeInverses, AfterInverses}

-- element k of n lies within n elements
pub within : (w k n : ℕ) → k < n → k * w + w ≤ n * w
within w k n h = omega (arith, N.suc-mul k w, N.mul-le-mul_right {m = suc k} {n = n} w h)

less : (k : ℕ) → suc k - 1 ≡ k
less k = omega arith

-- one more times a number is that number more
pub one_more : (j k each : ℕ) → k ≡ j + 1 → k * each ≡ j * each + each
one_more j k each e = ap (λ (i : ℕ). i * each) e ∙ N.add-mul j 1 each ∙ ap (◌+◌ (j * each)) (N.one-mul each)

module _ (U : Units) where
  open U use {layout, laws, mul, inverse, Unit, mul-unit, inverse_first, inverse_second}
  open layout use {El, width, write}
  open laws use {length_write, read_same}

  -- what equals a unit is one
  pub same_unit : (a b : El) → a ≡ b → Unit b → Unit a
  same_unit a b e u = subst⁻¹ Unit e u

  -- a product with one
  pub from_ones : {one a b c : El} → c ≡ mul one a → IsOne U one → Unit a → a ≡ b → c ≡ b
  from_ones e o u f = e ∙ o.1 _ u ∙ f

  product_unit : (column : List ℕ) (n k : ℕ) → UnitColumn U n column → k < n → Unit (product U column k)
  unfolding product
  product_unit column n zero c h = c.units 0 h
  product_unit column n (suc k) c h = mul-unit _ _ (product_unit column n k c (omega arith)) (c.units (suc k) h)

  -- the products, going up: whole is that of the elements below k
  next_product : (column : List ℕ) (k : ℕ) (whole a : El) → 0 < k → whole ≡ product U column (k - 1) → a ≡ at U column k
      → mul whole a ≡ product U column (k + 1 - 1)
  unfolding product
  next_product column zero whole a h e f = absurd (N.not-suc-le-zero h)
  next_product column (suc k) whole a h e f = ap₂ mul (e ∙ ap (product U column) (less k)) f ∙ ap (product U column) index
    where
      index : suc k ≡ suc k + 1 - 1
      index = omega arith

  -- the inverses, going down: rest is the inverse of the product up to k
  module _ (column : List ℕ) (n : ℕ) (c : UnitColumn U n column) where
    inverse_at : (k : ℕ) (last rest : El) → 0 < k → k < n → last ≡ product U column (k - 1) → rest ≡ inverse (product U column k)
        → mul last rest ≡ inverses U column k
    unfolding product
    inverse_at zero last rest p h e f = absurd (N.not-suc-le-zero p)
    inverse_at (suc k) last rest p h e f =
        ap₂ mul (e ∙ ap (product U column) (less k)) f ∙ inverse_second _ _ (product_unit column n k c (omega arith)) (c.units (suc k) h)

    rest_below : (k : ℕ) (rest a : El) → 0 < k → k < n → rest ≡ inverse (product U column k) → a ≡ at U column k
        → mul rest a ≡ inverse (product U column (k - 1))
    unfolding product
    rest_below zero rest a p h e f = absurd (N.not-suc-le-zero p)
    rest_below (suc k) rest a p h e f = ap₂ mul e f ∙ inverse_first _ _ (product_unit column n k c (omega arith)) (c.units (suc k) h)
        ∙ ap (λ (j : ℕ). inverse (product U column j)) (sym (less k))

  -- a part of the elements
  pub holds_part : (f : ℕ → El) (dst : List ℕ) (from from' to to' : ℕ) → from ≤ from' → to' ≤ to → Holds U f from to dst
      → Holds U f from' to' dst
  holds_part f dst from from' to to' lo hi h = record { holds = λ j l m. h.holds j (omega arith) (omega arith) }

  pub holds_none : (f : ℕ → El) (dst : List ℕ) (from to : ℕ) → to ≤ from → Holds U f from to dst
  holds_none f dst from to le = record { holds = λ j lo hi. absurd (N.not-le_of_lt hi (omega arith)) }

  -- element k is written
  module _ (f : ℕ → El) (dst : List ℕ) (k : ℕ) (a : El) (after : List ℕ) (wrote : after ≡ write dst (k * width) a) where
    length-after : length after ≡ length dst
    length-after = ap length wrote ∙ length_write dst (k * width) a

    other : (j : ℕ) → (j < k) ⊎ (k < j) → at U after j ≡ at U dst j
    other j (inl h) = ap (λ l. at U l j) wrote ∙ read_other layout laws dst (k * width) a (j * width) (inl (within width j k h))
    other j (inr h) = ap (λ l. at U l j) wrote ∙ read_other layout laws dst (k * width) a (j * width) (inr (within width k j h))

    here : k * width + width ≤ length dst → a ≡ f k → (j : ℕ) → k ≡ j → at U after j ≡ f j
    here l e j q =
        ap (at U after) (sym q) ∙ ap (λ (m : List ℕ). at U m k) wrote ∙ read_same dst (k * width) a l ∙ e ∙ ap f q

    -- after those below it
    pub holds_next : Holds U f 0 k dst → k * width + width ≤ length dst → a ≡ f k → Holds U f 0 (k + 1) after
    holds_next h l e =
        record { holds = λ j lo hi. elim (dec_lt j k) [ yes lt ↦ other j (inl lt) ∙ h.holds j lo lt | no ge ↦ here l e j (omega arith) ] }

    -- before those above it
    holds_down : (n : ℕ) → Holds U f (k + 1) n dst → k * width + width ≤ length dst → a ≡ f k → Holds U f k n after
    holds_down n h l e = record {
      holds = λ j lo hi. elim (dec_lt k j) [ yes lt ↦ other j (inr lt) ∙ h.holds j (omega arith) hi | no ge ↦ here l e j (omega arith) ];
    }

    -- those below it stay
    holds_below : (m : ℕ) → m ≤ k → Holds U f 0 k dst → Holds U f 0 m after
    holds_below m le h = record { holds = λ j lo hi. other j (inl (omega arith)) ∙ h.holds j lo (omega arith) }

  -- some words are some elements
  pub some_elements : {column : List ℕ} → UnitColumn U (size U column) column → 0 < length column → 0 < size U column
  some_elements {column} c h =
      elim (dec_lt 0 (size U column)) [ yes some ↦ some | no none ↦ absurd (N.not-le_of_lt h (no_words (omega arith))) ]
    where
      no_words : size U column ≡ 0 → length column ≤ 0
      no_words e = N.le_of_eq (c.whole ∙ ap (λ (n : ℕ). n * width) e ∙ N.zero-mul width)

  -- element k of the column
  pub element_unit : {column : List ℕ} {n : ℕ} {a : El} → UnitColumn U n column → (k : ℕ) → k < n → a ≡ at U column k → Unit a
  element_unit c k h e = same_unit _ _ e (c.units k h)

  -- and its place in a destination as long
  place : {column : List ℕ} {n : ℕ} → UnitColumn U n column → (dst : List ℕ) (k : ℕ) → length dst ≡ length column → k < n
      → k * width + width ≤ length dst
  place {column} {n} c dst k l h = omega (arith, within width k n h, c.whole)

  -- going up: the elements below k are the products, and whole is the last of them; made are the multiplications so far, `first`
  -- of them for the first element
  pub record Up (first : ℕ) (column dst : List ℕ) (k : ℕ) (whole : El) (made : ℕ) : Type 0 where
    pub some : 0 < k
    pub most : k ≤ size U column
    pub long : length dst ≡ length column
    pub last : whole ≡ product U column (k - 1)
    pub below : Holds U (product U column) 0 k dst
    pub multiplications : made ≡ first + (k - 1) * U.multiplications

  module _ {column dst₀ : List ℕ} (p : BeforeProducts U column dst₀) where
    pub up_start : {first : ℕ} {after : List ℕ} {whole : El} → whole ≡ at U column 0 → after ≡ write dst₀ (0 * width) whole
        → Up first column after 1 whole first
    unfolding product
    up_start {first} {after} {whole} e wrote =
        let some = some_elements p.elements p.nonempty in record {
          some = omega arith;
          most = some;
          long = length-after (product U column) dst₀ 0 whole after wrote ∙ p.room;
          last = e;
          below =
              holds_next (product U column) dst₀ 0 whole after wrote (holds_none (product U column) dst₀ 0 0 (omega arith))
              (place p.elements dst₀ 0 p.room some) e;
          multiplications = sym (ap (◌+◌ first) (N.zero-mul U.multiplications) ∙ N.add-zero first);
        }

    pub first_unit : {a : El} → a ≡ at U column 0 → Unit a
    first_unit e = element_unit p.elements 0 (some_elements p.elements p.nonempty) e

    pub up_unit : {dst : List ℕ} {first k : ℕ} {whole : El} {made : ℕ} → Up first column dst k whole made → Unit whole
    up_unit {k = k} u =
        same_unit _ _ u.last (product_unit column (size U column) (k - 1) p.elements (omega (arith, u.some, u.most)))

    pub up_next : {dst after : List ℕ} {first k : ℕ} {whole a whole' : El} {made : ℕ} → Up first column dst k whole made → k < size U column
        → a ≡ at U column k → whole' ≡ mul whole a → after ≡ write dst (k * width) whole' → {each : ℕ} → each ≡ U.multiplications
        → Up first column after (k + 1) whole' (made + each)
    up_next {dst} {after} {k = k} {whole} {a} {whole'} u h e f wrote m =
        let g = f ∙ next_product column k whole a u.some u.last e in
        let same : k + 1 - 1 ≡ k = omega arith in record {
          some = omega arith;
          most = omega arith;
          long = length-after (product U column) dst k whole' after wrote ∙ u.long;
          last = g;
          below =
              holds_next (product U column) dst k whole' after wrote u.below
              (place p.elements dst k u.long h) (g ∙ ap (product U column) same);
          multiplications = omega (arith, m, u.multiplications, one_more (k - 1) (k + 1 - 1) U.multiplications (omega (arith, u.some)));
        }

    -- the whole product can be inverted
    pub whole_unit : {first : ℕ} {exit : List ℕ} {whole : El} {made : ℕ} → AfterProducts U first column exit whole made → Unit whole
    whole_unit w =
        let some = some_elements p.elements p.nonempty in
        same_unit _ _ w.whole (product_unit column (size U column) (size U column - 1) p.elements (omega arith))

  -- going down: the elements below k are still the products, those above it inverses, and rest is the inverse of the product up to
  -- k; made are the multiplications so far, two products for each element above k
  pub record Down (column dst : List ℕ) (k : ℕ) (rest : El) (made : ℕ) : Type 0 where
    pub low : k < size U column
    pub long : length dst ≡ length column
    pub inverted-product : rest ≡ inverse (product U column k)
    pub below : Holds U (product U column) 0 k dst
    pub above : Holds U (inverses U column) (k + 1) (size U column) dst
    pub multiplications : made ≡ (size U column - 1 - k) * (U.multiplications + U.multiplications)

  module _ {column dst₀ : List ℕ} {rest₀ : El} (p : BeforeInverses U column dst₀ rest₀) where
    pub down_unit : {dst : List ℕ} {k : ℕ} {rest : El} {made : ℕ} → Down column dst k rest made → Unit rest
    down_unit {k = k} d =
        same_unit _ _ d.inverted-product (U.inverse_unit _ (product_unit column (size U column) k p.elements d.low))

    last_is : {dst : List ℕ} {k : ℕ} {rest last : El} {made : ℕ} → Down column dst k rest made → 0 < k → last ≡ at U dst (k - 1)
        → last ≡ product U column (k - 1)
    last_is {k = k} d h e = e ∙ d.below.holds (k - 1) (omega arith) (omega arith)

    pub last-unit : {dst : List ℕ} {k : ℕ} {rest last : El} {made : ℕ} → Down column dst k rest made → 0 < k
        → last ≡ at U dst (k - 1) → Unit last
    last-unit {k = k} d h e =
        same_unit _ _ (last_is d h e) (product_unit column (size U column) (k - 1) p.elements (omega (arith, d.low)))

    pub down_next : {dst after : List ℕ} {k : ℕ} {rest a last x rest' : El} {made : ℕ} → Down column dst k rest made → 0 < k
        → a ≡ at U column k → last ≡ at U dst (k - 1) → x ≡ mul last rest → rest' ≡ mul rest a → after ≡ write dst (k * width) x
        → {each each' : ℕ} → each ≡ U.multiplications → each' ≡ U.multiplications → Down column after (k - 1) rest' (made + each + each')
    down_next {dst} {after} {k} {rest} {a} {last} {x} d h e f g i wrote m m' =
        let n = size U column in
        let y = g ∙ inverse_at column n p.elements k last rest h d.low (last_is d h f) d.inverted-product in record {
          low = omega (arith, d.low);
          long = length-after (inverses U column) dst k x after wrote ∙ d.long;
          inverted-product = i ∙ rest_below column n p.elements k rest a h d.low d.inverted-product e;
          below = holds_below (product U column) dst k x after wrote (k - 1) (omega arith) d.below;
          above =
              holds_part (inverses U column) after k (k - 1 + 1) n n (omega arith) (omega arith)
              (holds_down (inverses U column) dst k x after wrote n d.above (place p.elements dst k d.long d.low) y);
          multiplications =
              omega (
                arith,
                m,
                m',
                d.multiplications,
                one_more (n - 1 - k) (n - 1 - (k - 1)) (U.multiplications + U.multiplications) (omega (arith, d.low)),
              );
        }

    pub down_end : {dst after : List ℕ} {k : ℕ} {rest : El} {made : ℕ} → Down column dst k rest made
        → after ≡ write dst (0 * width) rest → k ≡ 0 → AfterInverses U column after made
    unfolding product
    down_end {dst} {after} {k} {rest} d wrote z =
        let n = size U column in record {
          result =
              holds_down (inverses U column) dst 0 rest after wrote n
              (holds_part (inverses U column) dst (k + 1) 1 n n (omega arith) (omega arith) d.above)
              (place p.elements dst 0 d.long (omega (arith, d.low)))
              (d.inverted-product ∙ ap (λ (j : ℕ). inverse (product U column j)) z);
          multiplications = d.multiplications ∙ ap (λ (j : ℕ). j * (U.multiplications + U.multiplications)) (omega arith);
        }

  pub before_products : {column dst : List ℕ} → Inverting U column dst → 0 < length column → BeforeProducts U column dst
  before_products p h = record { elements = p.elements; room = p.room; nonempty = h }
