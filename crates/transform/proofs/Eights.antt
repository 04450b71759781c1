-- Two parts of four words, rewritten one after the other.
use Prim.Native.Nat.{ℕ, ◌+◌, ◌-◌, ◌%◌}
use mathlib.Core.Path.{◌≡◌, refl, sym, ◌∙◌, ap, ap₂, subst}
use mathlib.Core.List.{List, ◌++◌, append-nil, map-append}
use native.Mathlib.Omega.{arith}
use lib.ListN.{length, take, drop, length-append, length-drop, drop_of_length-le}
use lib.Seq.{length-take-le, take_at, drop_at, take_all}
use Rattle.algebra.specs.M31.{P}
use Rattle.transform.specs.Tree.{Each, PartlyReduced, reduced_words}
use Rattle.transform.proofs.WordLaws.{each_append}
use Rattle.transform.proofs.Partly.{partly_drop, reduced-take, reduced-drop}

module _ (l : List ℕ) (e : length l ≡ 8) where
  pub first_length : length (take (4 - 0) (drop 0 l)) ≡ 4
  first_length = length-take-le 4 l (omega arith)

  -- once the first part is q
  module _ (q : List ℕ) (eq : length q ≡ 4) where
    abbrev middle : List ℕ
    middle = take 0 l ++ (q ++ drop (4 - 0) (drop 0 l))

    rest : length (drop 4 l) ≡ 4
    rest = length-drop 4 l ∙ omega arith

    second : take (8 - 4) (drop 4 middle) ≡ drop 4 l
    second = ap (take 4) (drop_at q (drop 4 l) 4 eq) ∙ take_all 4 (drop 4 l) (omega (arith, rest))

    pub second_length : length (take (8 - 4) (drop 4 middle)) ≡ 4
    second_length = ap length second ∙ rest

    pub second_partly : PartlyReduced l → PartlyReduced (take (8 - 4) (drop 4 middle))
    second_partly p k = rw second (partly_drop 4 l p k)

    pub both_parts : (f g : List ℕ → List ℕ) (r : List ℕ) → q ≡ f (take (4 - 0) (drop 0 l)) → r ≡ g (take (8 - 4) (drop 4 middle))
        → take 4 middle ++ (r ++ drop (8 - 4) (drop 4 middle)) ≡ f (take 4 l) ++ g (drop 4 l)
    both_parts f g r ef eg =
        ap₂ (λ (a b : List ℕ). a ++ (r ++ b)) (take_at q (drop 4 l) 4 eq)
        (ap (drop 4) (drop_at q (drop 4 l) 4 eq) ∙ drop_of_length-le (drop 4 l) {i = 4} (omega (arith, rest)))
        ∙ ap₂ ◌++◌ ef (append-nil r ∙ eg ∙ ap g second)

    -- the same on what partly reduced words stand for
    pub partly_parts : (f g : List ℕ → List ℕ) (fits : ℕ → Type 0) → fits 0 → (r : List ℕ)
        → reduced_words q ≡ f (reduced_words (take (4 - 0) (drop 0 l))) → Each fits q
        → reduced_words r ≡ g (reduced_words (take (8 - 4) (drop 4 middle))) → Each fits r
        → (reduced_words (take 4 middle ++ (r ++ drop (8 - 4) (drop 4 middle))) ≡ f (take 4 (reduced_words l)) ++ g
        (drop 4 (reduced_words l)))
        × Each fits (take 4 middle ++ (r ++ drop (8 - 4) (drop 4 middle)))
    partly_parts f g fits none r ef pq eg pr =
        let parts = both_parts (λ (d : List ℕ). q) (λ (d : List ℕ). r) r refl refl in (
          ap reduced_words parts ∙ map-append (λ (w : ℕ). w % P) q r
              ∙ ap₂ ◌++◌ (ef ∙ ap f (reduced-take 4 l)) (eg ∙ ap (λ (d : List ℕ). g (reduced_words d)) second ∙ ap g (reduced-drop 4 l)),
          subst (Each fits) (sym parts) (each_append fits none q r pq pr),
        )

-- four words and four words
pub eight-length : (f g : List ℕ → List ℕ) → ((d : List ℕ) → length d ≡ 4 → length (f d) ≡ 4) → ((d : List ℕ) → length d ≡ 4 →
    length (g d) ≡ 4)
    → (d : List ℕ) → length d ≡ 8 → length (f (take 4 d) ++ g (drop 4 d)) ≡ 8
eight-length f g kf kg d e =
    length-append (f (take 4 d)) (g (drop 4 d))
    ∙ ap₂ ◌+◌ (kf (take 4 d) (length-take-le 4 d (omega arith))) (kg (drop 4 d) (length-drop 4 d ∙ omega arith))
