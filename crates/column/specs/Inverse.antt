-- Interpolation and evaluation undo one another, up to the factor 2^k, where the twiddles have inverses.
use Prim.Native.Nat.{ℕ, zero, suc, ◌+◌, ◌*◌, ◌^◌, ◌<◌}
use Rattle.std.specs.Prelude.{◌≡◌}
use Rattle.std.proofs.Math.Path.{refl, sym, ap, ap₂}
use Rattle.std.proofs.Common.{◌∙◌, take-append-drop, take_at, drop_at}
use mathlib.Core.List.{List, [], ◌∷◌, ◌++◌, zip_with}
use Rattle.std.proofs.Math.Nat as N
use native.Mathlib.Omega.{arith}
use Rattle.std.proofs.Math.ListN.{length, take, drop, length-append}
use Rattle.algebra.specs.Ring.{Ops, Laws, two}
use Rattle.algebra.specs.Polynomial.{Expr, ◌:+◌, ◌:*◌, :-◌, exprs, given, v0, v1, v2, v3, v4}
use Rattle.algebra.specs.Solver.{solve, solve_from}
use Rattle.algebra.specs.Power.{pow}
use Rattle.column.specs.Butterflies.{on_halves, butterfly_sum, butterfly_difference, evaluate_block}
use Rattle.column.specs.Butterflies.{inverse_sum, inverse_difference, interpolate_block, scaled}
use Rattle.column.specs.Lists.{zip_length, zip-zip, zip-equal, lower-length, upper-length, halves_length}
use Rattle.column.specs.Paths.{evaluate_length}

module _ (O : Ops) where
  open O use {El, one as 𝟙, mul as ◌⊗◌}

  infixl 70 ◌⊗◌
  -- tv holds the inverses of the twiddles of the blocks of at most 2^k elements
  abbrev pub Inverses : ℕ → (ℕ → ℕ → El) → (ℕ → ℕ → El) → Type 0
  Inverses k tw tv = (t i : ℕ) → t < k → tw t i ⊗ tv t i ≡ 𝟙

  -- ---- multiples of lists

  pub scaled-length : (s : El) (a : List El) → length (scaled O s a) ≡ length a
  unfolding scaled
  scaled-length s [] = refl
  scaled-length s (x ∷ a) = ap suc (scaled-length s a)

  zip_first : (s : El) (a b : List El) → length b ≡ length a → zip_with (λ (x y : El). x ⊗ s) a b ≡ scaled O s a
  unfolding zip_with scaled
  zip_first s [] b e = refl
  zip_first s (x ∷ a) [] e = absurd (omega arith)
  zip_first s (x ∷ a) (y ∷ b) e = ap (λ (r : List El). x ⊗ s ∷ r) (zip_first s a b (omega arith))

  zip_second : (s : El) (a b : List El) → length b ≡ length a → zip_with (λ (x y : El). y ⊗ s) a b ≡ scaled O s b
  unfolding zip_with scaled
  zip_second s [] [] e = refl
  zip_second s [] (y ∷ b) e = absurd (omega arith)
  zip_second s (x ∷ a) [] e = absurd (omega arith)
  zip_second s (x ∷ a) (y ∷ b) e = ap (λ (r : List El). y ⊗ s ∷ r) (zip_second s a b (omega arith))

  pub scaled-zip : (s : El) (f : El → El → El) (a b : List El) → scaled O s (zip_with f a b) ≡ zip_with (λ (x y : El). f x y ⊗ s) a b
  unfolding zip_with scaled
  scaled-zip s f [] b = refl
  scaled-zip s f (x ∷ a) [] = refl
  scaled-zip s f (x ∷ a) (y ∷ b) = ap (λ (r : List El). f x y ⊗ s ∷ r) (scaled-zip s f a b)

  pub zip-scaled : (s : El) (f : El → El → El) (a b : List El)
      → zip_with f (scaled O s a) (scaled O s b) ≡ zip_with (λ (x y : El). f (x ⊗ s) (y ⊗ s)) a b
  unfolding zip_with scaled
  zip-scaled s f [] b = refl
  zip-scaled s f (x ∷ a) [] = refl
  zip-scaled s f (x ∷ a) (y ∷ b) = ap (λ (r : List El). f (x ⊗ s) (y ⊗ s) ∷ r) (zip-scaled s f a b)

  pub scaled-append : (s : El) (a b : List El) → scaled O s (a ++ b) ≡ scaled O s a ++ scaled O s b
  unfolding scaled
  scaled-append s [] b = refl
  scaled-append s (x ∷ a) b = ap (λ (r : List El). x ⊗ s ∷ r) (scaled-append s a b)

  pub scaled-take : (s : El) (n : ℕ) (a : List El) → take n (scaled O s a) ≡ scaled O s (take n a)
  unfolding scaled
  scaled-take s zero a = refl
  scaled-take s (suc n) [] = refl
  scaled-take s (suc n) (x ∷ a) = ap (λ (r : List El). x ⊗ s ∷ r) (scaled-take s n a)

  pub scaled-drop : (s : El) (n : ℕ) (a : List El) → drop n (scaled O s a) ≡ scaled O s (drop n a)
  unfolding scaled
  scaled-drop s zero a = refl
  scaled-drop s (suc n) [] = refl
  scaled-drop s (suc n) (x ∷ a) = scaled-drop s n a

  pub interpolate_length : (k : ℕ) (tv : ℕ → ℕ → El) (i : ℕ) (v : List El) → length v ≡ 2 ^ k → length (interpolate_block O k tv i v) ≡ 2 ^ k
  unfolding interpolate_block
  interpolate_length zero tv i v e = e
  interpolate_length (suc k) tv i v e =
      let a : List El = interpolate_block O k tv (2 * i) (take (2 ^ k) v) in
      let b : List El = interpolate_block O k tv (2 * i + 1) (drop (2 ^ k) v) in
      let la : length a ≡ 2 ^ k = interpolate_length k tv (2 * i) (take (2 ^ k) v) (lower-length k v e) in
      let lb : length b ≡ 2 ^ k = interpolate_length k tv (2 * i + 1) (drop (2 ^ k) v) (upper-length k v e) in
      length-append (zip_with (inverse_sum O) a b) (zip_with (inverse_difference O (tv k i)) a b)
      ∙ omega (
        arith,
        N.two-pow-succ k,
        zip_length (inverse_sum O) a b (lb ∙ sym la),
        zip_length (inverse_difference O (tv k i)) a b (lb ∙ sym la),
      )

module _ (O : Ops) (L : Laws O) where
  open O use {El, one as 𝟙, mul as ◌⊗◌}

  infixl 70 ◌⊗◌
  pub scaled-one : (a : List El) → scaled O 𝟙 a ≡ a
  unfolding scaled
  scaled-one [] = refl
  scaled-one (x ∷ a) = ap₂ ◌∷◌ (L.mul-one x) (scaled-one a)

  pub scaled-scaled : (s t : El) (a : List El) → scaled O s (scaled O t a) ≡ scaled O (t ⊗ s) a
  unfolding scaled
  scaled-scaled s t [] = refl
  scaled-scaled s t (x ∷ a) = ap₂ ◌∷◌ (L.mul_assoc x t s) (scaled-scaled s t a)

  -- ---- one butterfly and its inverse

  forth_sum : (w s u v : El) → inverse_sum O (butterfly_sum O w u v ⊗ s) (butterfly_difference O w u v ⊗ s) ≡ u ⊗ (two O ⊗ s)
  unfolding inverse_sum butterfly_sum butterfly_difference
  forth_sum w s u v =
      solve O L (w ∷ s ∷ u ∷ v ∷ []) ((v2 :+ v3 :* v0) :* v1 :+ (v2 :+ :- (v3 :* v0)) :* v1) (v2 :* (two exprs :* v1)) tt

  forth_difference : (w t s : El) → w ⊗ t ≡ 𝟙 → (u v : El)
      → inverse_difference O t (butterfly_sum O w u v ⊗ s) (butterfly_difference O w u v ⊗ s) ≡ v ⊗ (two O ⊗ s)
  unfolding inverse_difference butterfly_sum butterfly_difference
  forth_difference w t s e u v =
      solve_from O L (w ∷ s ∷ u ∷ v ∷ t ∷ []) (given (two exprs :* v3 :* v1) (v0 :* v4) Expr.:1 ∷ []) (e, tt)
      (((v2 :+ v3 :* v0) :* v1 :+ :- ((v2 :+ :- (v3 :* v0)) :* v1)) :* v4) (v3 :* (two exprs :* v1)) tt

  back_sum : (w t : El) → w ⊗ t ≡ 𝟙 → (a b : El) → butterfly_sum O w (inverse_sum O a b) (inverse_difference O t a b) ≡ a ⊗ two O
  unfolding inverse_sum inverse_difference butterfly_sum
  back_sum w t e a b =
      solve_from O L (w ∷ t ∷ a ∷ b ∷ []) (given (v2 :+ :- v3) (v0 :* v1) Expr.:1 ∷ []) (e, tt)
      ((v2 :+ v3) :+ ((v2 :+ :- v3) :* v1) :* v0) (v2 :* two exprs) tt

  back_difference : (w t : El) → w ⊗ t ≡ 𝟙 → (a b : El) → butterfly_difference O w (inverse_sum O a b) (inverse_difference O t a b) ≡ b ⊗ two O
  unfolding inverse_sum inverse_difference butterfly_difference
  back_difference w t e a b =
      solve_from O L (w ∷ t ∷ a ∷ b ∷ []) (given (v3 :+ :- v2) (v0 :* v1) Expr.:1 ∷ []) (e, tt)
      ((v2 :+ v3) :+ :- (((v2 :+ :- v3) :* v1) :* v0)) (v3 :* two exprs) tt

  -- ---- evaluation of multiples

  sum-scaled : (w s x y : El) → butterfly_sum O w (x ⊗ s) (y ⊗ s) ≡ butterfly_sum O w x y ⊗ s
  unfolding butterfly_sum
  sum-scaled w s x y = solve O L (w ∷ s ∷ x ∷ y ∷ []) (v2 :* v1 :+ (v3 :* v1) :* v0) ((v2 :+ v3 :* v0) :* v1) tt

  difference_scaled : (w s x y : El) → butterfly_difference O w (x ⊗ s) (y ⊗ s) ≡ butterfly_difference O w x y ⊗ s
  unfolding butterfly_difference
  difference_scaled w s x y =
      solve O L (w ∷ s ∷ x ∷ y ∷ []) (v2 :* v1 :+ :- ((v3 :* v1) :* v0)) ((v2 :+ :- (v3 :* v0)) :* v1) tt

  halves_scaled : (f : El → El → El) (s : El) → ((x y : El) → f (x ⊗ s) (y ⊗ s) ≡ f x y ⊗ s) → (half : ℕ) (c : List El)
      → on_halves f half (scaled O s c) ≡ scaled O s (on_halves f half c)
  halves_scaled f s e half c =
      ap₂ (zip_with f) (scaled-take O s half c) (scaled-drop O s half c) ∙ zip-scaled O s f (take half c) (drop half c)
      ∙ zip-equal (λ (x y : El). f (x ⊗ s) (y ⊗ s)) (λ (x y : El). f x y ⊗ s) e (take half c) (drop half c)
      ∙ sym (scaled-zip O s f (take half c) (drop half c))

  pub evaluate_scaled : (k : ℕ) (tw : ℕ → ℕ → El) (i : ℕ) (s : El) (c : List El)
      → evaluate_block O k tw i (scaled O s c) ≡ scaled O s (evaluate_block O k tw i c)
  unfolding evaluate_block
  evaluate_scaled zero tw i s c = refl
  evaluate_scaled (suc k) tw i s c =
      let lower : List El = on_halves (butterfly_sum O (tw k i)) (2 ^ k) c in
      let upper : List El = on_halves (butterfly_difference O (tw k i)) (2 ^ k) c in
      ap₂ ◌++◌
      (ap (evaluate_block O k tw (2 * i)) (halves_scaled (butterfly_sum O (tw k i)) s (sum-scaled (tw k i) s) (2 ^ k) c)
      ∙ evaluate_scaled k tw (2 * i) s lower)
      (ap (evaluate_block O k tw (2 * i + 1)) (halves_scaled (butterfly_difference O (tw k i)) s (difference_scaled (tw k i) s) (2 ^ k) c)
      ∙ evaluate_scaled k tw (2 * i + 1) s upper)
      ∙ sym (scaled-append O s (evaluate_block O k tw (2 * i) lower) (evaluate_block O k tw (2 * i + 1) upper))

  -- ---- there and back

  -- both halves, from what the butterflies give on two elements
  module _ (f g : El → El → El) (s : El) (a b : List El) (e : length b ≡ length a) where
    first_back : (h : El → El → El) → ((x y : El) → h (f x y) (g x y) ≡ x ⊗ s) → zip_with h (zip_with f a b) (zip_with g a b) ≡ scaled O s a
    first_back h r =
        zip-zip h f g a b ∙ zip-equal (λ (x y : El). h (f x y) (g x y)) (λ (x y : El). x ⊗ s) r a b ∙ zip_first O s a b e

    second_back : (h : El → El → El) → ((x y : El) → h (f x y) (g x y) ≡ y ⊗ s) → zip_with h (zip_with f a b) (zip_with g a b) ≡ scaled O s b
    second_back h r =
        zip-zip h f g a b ∙ zip-equal (λ (x y : El). h (f x y) (g x y)) (λ (x y : El). y ⊗ s) r a b ∙ zip_second O s a b e

  module _ (tw tv : ℕ → ℕ → El) where
    pub interpolate_evaluate : (k i : ℕ) (c : List El) → length c ≡ 2 ^ k → Inverses O k tw tv
        → interpolate_block O k tv i (evaluate_block O k tw i c) ≡ scaled O (pow O (two O) k) c
    unfolding interpolate_block evaluate_block pow
    interpolate_evaluate zero i c e inverses = sym (scaled-one c)
    interpolate_evaluate (suc k) i c e inverses =
        let half : ℕ = 2 ^ k in
        let s : El = pow O (two O) k in
        let w : El = tw k i in
        let t : El = tv k i in
        let a : List El = take half c in
        let b : List El = drop half c in
        let same : length b ≡ length a = upper-length k c e ∙ sym (lower-length k c e) in
        let lower : List El = zip_with (butterfly_sum O w) a b in
        let upper : List El = zip_with (butterfly_difference O w) a b in
        let ll : length lower ≡ half = halves_length k c e (butterfly_sum O w) in
        let first : List El = evaluate_block O k tw (2 * i) lower in
        let second : List El = evaluate_block O k tw (2 * i + 1) upper in
        let lf : length first ≡ half = evaluate_length O k tw (2 * i) lower ll in
        let less : Inverses O k tw tv = λ t i h. inverses t i (omega arith) in
        ap₂ (λ (x y : List El). zip_with (inverse_sum O) x y ++ zip_with (inverse_difference O t) x y)
        (ap (interpolate_block O k tv (2 * i)) (take_at first second half lf) ∙ interpolate_evaluate k (2 * i) lower ll less)
        (ap (interpolate_block O k tv (2 * i + 1)) (drop_at first second half lf)
        ∙ interpolate_evaluate k (2 * i + 1) upper (halves_length k c e (butterfly_difference O w)) less)
        ∙ ap₂ ◌++◌
        (zip-scaled O s (inverse_sum O) lower upper
        ∙ first_back (butterfly_sum O w) (butterfly_difference O w) (two O ⊗ s) a b same (λ (x y : El). inverse_sum O (x ⊗ s) (y ⊗ s))
        (forth_sum w s))
        (zip-scaled O s (inverse_difference O t) lower upper
        ∙ second_back (butterfly_sum O w) (butterfly_difference O w) (two O ⊗ s) a b same
        (λ (x y : El). inverse_difference O t (x ⊗ s) (y ⊗ s))
        (forth_difference w t s (inverses k i (omega arith))))
        ∙ sym (scaled-append O (two O ⊗ s) a b) ∙ ap (scaled O (two O ⊗ s)) (take-append-drop half c)

    pub evaluate_interpolate : (k i : ℕ) (v : List El) → length v ≡ 2 ^ k → Inverses O k tw tv
        → evaluate_block O k tw i (interpolate_block O k tv i v) ≡ scaled O (pow O (two O) k) v
    unfolding interpolate_block evaluate_block pow
    evaluate_interpolate zero i v e inverses = sym (scaled-one v)
    evaluate_interpolate (suc k) i v e inverses =
        let half : ℕ = 2 ^ k in
        let s : El = pow O (two O) k in
        let w : El = tw k i in
        let t : El = tv k i in
        let own : w ⊗ t ≡ 𝟙 = inverses k i (omega arith) in
        let less : Inverses O k tw tv = λ t i h. inverses t i (omega arith) in
        let ll : length (take half v) ≡ half = lower-length k v e in
        let lu : length (drop half v) ≡ half = upper-length k v e in
        let a : List El = interpolate_block O k tv (2 * i) (take half v) in
        let b : List El = interpolate_block O k tv (2 * i + 1) (drop half v) in
        let la : length a ≡ half = interpolate_length O k tv (2 * i) (take half v) ll in
        let same : length b ≡ length a = interpolate_length O k tv (2 * i + 1) (drop half v) lu ∙ sym la in
        let sums : List El = zip_with (inverse_sum O) a b in
        let differences : List El = zip_with (inverse_difference O t) a b in
        let ls : length sums ≡ half = zip_length (inverse_sum O) a b same ∙ la in
        let up : (d : List El) → scaled O (two O) (scaled O s d) ≡ scaled O (two O ⊗ s) d =
        λ d. scaled-scaled (two O) s d ∙ ap (λ (x : El). scaled O x d) (L.mul_comm s (two O)) in
        ap₂ (λ (x y : List El). evaluate_block O k tw (2 * i) x ++ evaluate_block O k tw (2 * i + 1) y)
        (ap₂ (zip_with (butterfly_sum O w)) (take_at sums differences half ls) (drop_at sums differences half ls)
        ∙ first_back (inverse_sum O) (inverse_difference O t) (two O) a b same (butterfly_sum O w) (back_sum w t own))
        (ap₂ (zip_with (butterfly_difference O w)) (take_at sums differences half ls) (drop_at sums differences half ls)
        ∙ second_back (inverse_sum O) (inverse_difference O t) (two O) a b same (butterfly_difference O w) (back_difference w t own))
        ∙ ap₂ ◌++◌
        (evaluate_scaled k tw (2 * i) (two O) a ∙ ap (scaled O (two O)) (evaluate_interpolate k (2 * i) (take half v) ll less)
        ∙ up (take half v))
        (evaluate_scaled k tw (2 * i + 1) (two O) b ∙ ap (scaled O (two O)) (evaluate_interpolate k (2 * i + 1) (drop half v) lu less)
        ∙ up (drop half v))
        ∙ sym (scaled-append O (two O ⊗ s) (take half v) (drop half v)) ∙ ap (scaled O (two O ⊗ s)) (take-append-drop half v)
