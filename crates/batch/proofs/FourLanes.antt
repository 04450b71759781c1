-- Four lanes: four inverses by one inversion, and a column taken four elements at a time.
use Rattle.std.proofs.Common.{◌≡◌, ℕ, zero, suc, ◌+◌, ◌*◌, ◌/◌, ◌%◌, ◌<◌, ◌≤◌, List, length, sym, ap, ◌∙◌, subst, ap₂, arith}
use mathlib.Core.Path.{subst⁻¹}
use native.Mathlib.Nat as N
use Rattle.fields.specs.PairLaws.{four_path}
use Rattle.batch.specs.Batch.{inverted}
use Rattle.batch.specs.Counts.{four_lane_pass, pass_counts}
use Rattle.batch.specs.Passes.{Units, UnitColumn, Holds, size, at, inverses, pair_units, lane_units}
use Rattle.batch.specs.PassContracts.{Inverting, Inverted, BeforeProducts}
use Rattle.batch.proofs.Montgomery.{same_unit}
use Rattle.batch.proofs.InvertedLists.{length-inverted, inverted_holds, is_inverted_whole}
use Rattle.batch.proofs.CountLaws.{Fours}

module _ (U : Units) where
  open U use {layout, mul, inverse, Unit, mul-unit, inverse_unit, inverse_first, inverse_second}
  open layout use {El, width, read}

  -- four inverses by one: x is the four, and whole their product
  module _ {x : (El × El) × (El × El)} (u : (lane_units U).Unit x) {two : El} (e : two ≡ mul x.0.0 x.0.1) where
    pub two_unit : Unit two
    two_unit = same_unit U _ _ e (mul-unit _ _ u.0.0 u.0.1)

    module _ {three : El} (f : three ≡ mul two x.1.0) where
      pub three_unit : Unit three
      three_unit = same_unit U _ _ f (mul-unit _ _ two_unit u.1.0)

      module _ {whole : El} (g : whole ≡ mul three x.1.1) where
        pub whole_unit : Unit whole
        whole_unit = same_unit U _ _ g (mul-unit _ _ three_unit u.1.1)

        module _ {rest : El} (h : rest ≡ inverse whole) where
          pub rest_unit : Unit rest
          rest_unit = same_unit U _ _ h (inverse_unit _ whole_unit)

          rest_is : rest ≡ inverse (mul three x.1.1)
          rest_is = h ∙ ap inverse g

          module _ {rest' : El} (i : rest' ≡ mul rest x.1.1) where
            pub rest'_unit : Unit rest'
            rest'_unit = same_unit U _ _ i (mul-unit _ _ rest_unit u.1.1)

            rest'_is : rest' ≡ inverse (mul two x.1.0)
            rest'_is = i ∙ ap (λ t. mul t x.1.1) rest_is ∙ inverse_first _ _ three_unit u.1.1 ∙ ap inverse f

            module _ {rest'' : El} (j : rest'' ≡ mul rest' x.1.0) where
              pub rest''_unit : Unit rest''
              rest''_unit = same_unit U _ _ j (mul-unit _ _ rest'_unit u.1.0)

              rest''_is : rest'' ≡ inverse (mul x.0.0 x.0.1)
              rest''_is = j ∙ ap (λ t. mul t x.1.0) rest'_is ∙ inverse_first _ _ two_unit u.1.0 ∙ ap inverse e

              pub four_inverses : {a b c d : El} → d ≡ mul three rest → c ≡ mul two rest' → b ≡ mul x.0.0 rest'' → a ≡ mul rest'' x.0.1
                  → ((a, b), (c, d)) ≡ (lane_units U).inverse x
              four_inverses k l m n =
                  four_path (n ∙ ap (λ t. mul t x.0.1) rest''_is ∙ inverse_first _ _ u.0.0 u.0.1)
                  (m ∙ ap (mul x.0.0) rest''_is ∙ inverse_second _ _ u.0.0 u.0.1)
                  (l ∙ ap (mul two) rest'_is ∙ inverse_second _ _ two_unit u.1.0)
                  (k ∙ ap (mul three) rest_is ∙ inverse_second _ _ three_unit u.1.1)

  -- elements two by two
  even_place : (k : ℕ) → k * 2 * width ≡ k * (width + width)
  even_place k = N.mul_assoc k 2 width ∙ ap (◌*◌ k) (N.two-mul width)

  odd_place : (k : ℕ) → (k * 2 + 1) * width ≡ k * (width + width) + width
  odd_place k = N.add-mul (k * 2) 1 width ∙ ap₂ ◌+◌ (even_place k) (N.one-mul width)

  even_at : (column : List ℕ) (k : ℕ) → (at (pair_units U) column k).0 ≡ at U column (k * 2)
  even_at column k = ap (read column) (sym (even_place k))

  odd_at : (column : List ℕ) (k : ℕ) → (at (pair_units U) column k).1 ≡ at U column (k * 2 + 1)
  odd_at column k = ap (read column) (sym (odd_place k))

  pair_column : (n : ℕ) (column : List ℕ) → UnitColumn U (n * 2) column → UnitColumn (pair_units U) n column
  pair_column n column c = record {
    whole = c.whole ∙ even_place n;
    units = λ k h. (
      same_unit U _ _ (even_at column k) (c.units (k * 2) (omega arith)),
      same_unit U _ _ (odd_at column k) (c.units (k * 2 + 1) (omega arith)),
    );
  }

  pair_holds : (n : ℕ) (column dst : List ℕ) → Holds (pair_units U) (inverses (pair_units U) column) 0 n dst
      → Holds U (inverses U column) 0 (n * 2) dst
  pair_holds n column dst h = record { holds = λ j lo hi. go j (j / 2) (j % 2) (N.div-add-mod' j 2) (N.mod-lt j {m = 2} (omega arith)) hi }
    where
      even : (k : ℕ) → k < n → at U dst (k * 2) ≡ inverses U column (k * 2)
      even k l = sym (even_at dst k) ∙ ap (λ p. p.0) (h.holds k (omega arith) l) ∙ ap inverse (even_at column k)

      odd : (k : ℕ) → k < n → at U dst (k * 2 + 1) ≡ inverses U column (k * 2 + 1)
      odd k l = sym (odd_at dst k) ∙ ap (λ p. p.1) (h.holds k (omega arith) l) ∙ ap inverse (odd_at column k)

      go : (j k r : ℕ) → k * 2 + r ≡ j → r < 2 → j < n * 2 → at U dst j ≡ inverses U column j
      go j k zero e lt hi =
          let q : k * 2 ≡ j = omega arith in
          ap (at U dst) (sym q) ∙ even k (omega arith) ∙ ap (inverses U column) q
      go j k (suc r) e lt hi =
          let q : k * 2 + 1 ≡ j = omega arith in
          ap (at U dst) (sym q) ∙ odd k (omega arith) ∙ ap (inverses U column) q

-- four elements at a time
module _ (U : Units) {column dst : List ℕ} (p : Inverting U column dst) (f : Fours (size U column)) where
  abbrev n : ℕ
  n = size U column

  abbrev m : ℕ
  m = size (lane_units U) column

  quadruple : (w : ℕ) → w + w + (w + w) ≡ w * 2 * 2
  quadruple w = omega arith

  four_each : n ≡ m * 2 * 2
  four_each =
      let by_two : length column / (U.layout.width * 2 * 2) ≡ n / 2 / 2
      = sym (N.div-div-eq-div-mul (length column) (U.layout.width * 2) 2)
      ∙ ap (λ (k : ℕ). k / 2) (sym (N.div-div-eq-div-mul (length column) U.layout.width 2)) in
      let same : m ≡ n / 2 / 2 = ap (λ (w : ℕ). length column / w) (quadruple U.layout.width) ∙ by_two in
      omega (arith, same, f.even)

  lane_words : m * (lane_units U).layout.width ≡ n * U.layout.width
  lane_words =
      ap (◌*◌ m) (quadruple U.layout.width) ∙ rearranged m U.layout.width ∙ ap (λ (k : ℕ). k * U.layout.width) (sym four_each)
    where
      rearranged : (m w : ℕ) → m * (w * 2 * 2) ≡ m * 2 * 2 * w
      rearranged m w =
          ap (◌*◌ m) (N.mul_assoc w 2 2 ∙ N.mul_comm w 4) ∙ sym (N.mul_assoc m 4 w) ∙ ap (λ (k : ℕ). k * w) (sym (N.mul_assoc m 2 2))

  pub lanes_start : BeforeProducts (lane_units U) column dst
  lanes_start = record {
    elements =
        pair_column (pair_units U) m column
        (pair_column U (m * 2) column (subst (λ (k : ℕ). UnitColumn U k column) four_each p.elements));
    room = p.room;
    nonempty = omega (arith, f.more, N.div-le_self (length column) U.layout.width);
  }

  -- the lanes leave what one by one would
  pub lanes_inverted : {exit : List ℕ} → Inverted (lane_units U) column dst exit → Inverted U column dst exit
  lanes_inverted {exit} i = record {
    result =
        i.result ∙ is_inverted_whole U column dst n lanes (length-inverted (lane_units U) column dst m) (p.room ∙ p.elements.whole)
        (subst⁻¹ (λ (k : ℕ). Holds U (inverses U column) 0 k lanes) four_each
        (pair_holds U (m * 2) column lanes (pair_holds (pair_units U) m column lanes (inverted_holds (lane_units U) column dst m enough))));
  }
    where
      lanes : List ℕ
      lanes = inverted (lane_units U).layout (lane_units U).inverse m column dst

      enough : m * (lane_units U).layout.width ≤ length dst
      enough = omega (arith, lane_words, p.room, p.elements.whole)

  -- and count as the four-lane pass does
  pub lanes_counted : four_lane_pass (m * 4) ≡ pass_counts n
  lanes_counted = ap four_lane_pass (omega (arith, four_each)) ∙ f.counts
