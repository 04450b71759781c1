-- What the calls that write answer and leave, where they accept and where they refuse.
use Rattle.std.specs.Prelude.{◌≡◌, ℕ, ◌^◌, ◌<◌, Bool, true, false, cond, eqb, ltb, List, ◌++◌, length, drop, Option, Some, None}
use Rattle.std.specs.Prelude.{Result, Ok, Err, ok_or, IsErrAnd, refl}
use Rattle.std.proofs.Common.{sym, ◌∙◌, ap, ltb-true, eqb-true}
use Rattle.fields.specs.Check.{need, outcome}
use Rattle.fields.specs.SearchLaws.{found_holds}
use Rattle.fields.specs.declared.refusal.Refusal.{Refusal}
use Rattle.fields.specs.declared.refusal.Refusal.TheVariants.{Length}
use Rattle.orders.specs.Orders.{reordered, log_size, exact_log_size, in_place_answer, in_place_exit, lengths_fit, copy_answer, copy_exit}

-- what a `?` returns
err_is : {A : Type 0} (x : Result A Refusal) (why other : Refusal) → IsErrAnd x (λ o. o ≡ why) → why ≡ other → x ≡ Err other
err_is (Ok _) why other q e = absurd q
err_is (Err o) why other q e = ap Err (q ∙ e)

-- ---- in place; `found` is what the code found as log size, and r that or its refusal

found_below : (t : Bool) (m n : ℕ) → Ok n ≡ ok_or (cond t (Some m) None) Length → (t ≡ true) × (n ≡ m)
found_below true m n e = (refl, cc)
found_below false m n e = absurd (cc)

none_below : (t : Bool) (m : ℕ) (why : Refusal) → Err why ≡ ok_or (cond t (Some m) None) Length → (t ≡ false) × (why ≡ Length)
none_below true m why e = absurd (cc)
none_below false m why e = (refl, cc)

module _ (l : List ℕ) (found : Option ℕ) (r : Result ℕ Refusal) (of : found ≡ exact_log_size (length l)) (or : r ≡ ok_or found Length) where
  e : r ≡ ok_or (exact_log_size (length l)) Length
  e = or ∙ ap (λ (t : Option ℕ). ok_or t Length) of

  is_log : (n : ℕ) → r ≡ Ok n → (ltb (log_size (length l)) 64 ≡ true) × (n ≡ log_size (length l))
  is_log n f = found_below (ltb (log_size (length l)) 64) (log_size (length l)) n (sym f ∙ e)

  pub is_power : (n : ℕ) → r ≡ Ok n → (n < 64) × (length l ≡ 2 ^ n)
  is_power n f =
      let here = is_log n f in
      let below : log_size (length l) < 64 = ltb-true (log_size (length l)) 64 here.0 in
      (rw here.1 below, rw here.1 (sym (eqb-true _ (length l) (found_holds (λ k. eqb (2 ^ k) (length l)) 64 below))))

  pub accepted : (order : ℕ → ℕ → ℕ) (n : ℕ) (v : List ℕ) → r ≡ Ok n → v ≡ reordered (order n) l
      → (Ok tt ≡ in_place_answer (length l)) × (v ≡ in_place_exit (in_place_answer (length l)) (order (log_size (length l))) l)
  unfolding in_place_answer in_place_exit
  accepted order n v f g =
      let here = is_log n f in
      rw here.0 (refl, g ∙ ap (λ (t : ℕ). reordered (order t) l) here.1)

  pub refused : (order : ℕ → ℕ → ℕ) (why : Refusal) (x : Result (Unit {0}) Refusal) → IsErrAnd x (λ o. o ≡ why) → r ≡ Err why
      → (x ≡ in_place_answer (length l)) × (l ≡ in_place_exit (in_place_answer (length l)) (order (log_size (length l))) l)
  unfolding in_place_answer in_place_exit
  refused order why x q f =
      let none = none_below (ltb (log_size (length l)) 64) (log_size (length l)) why (sym f ∙ e) in
      rw none.0 (err_is x why Length q none.1, refl)

-- ---- copies; r is what the code found of the lengths

passed : (t : Bool) (u : Unit {0}) → Ok u ≡ outcome (need t Length) → t ≡ true
passed true u e = refl
passed false u e = absurd (cc)

failed : (t : Bool) (why : Refusal) → Err why ≡ outcome (need t Length) → (t ≡ false) × (why ≡ Length)
failed true why e = absurd (cc)
failed false why e = (refl, cc)

module _ (values dst : List ℕ) (fit : Bool) (r : Result (Unit {0}) Refusal) (of : fit ≡ lengths_fit (length values) (length dst))
    (or : r ≡ outcome (need fit Length)) where
  pub copied_whole : (f : ℕ → ℕ) (out : List ℕ) (u : Unit {0}) → r ≡ Ok u → out ≡ reordered f values ++ drop (length values) dst
      → (Ok tt ≡ copy_answer (length values) (length dst)) × (out ≡ copy_exit (copy_answer (length values) (length dst)) f values dst)
  unfolding copy_answer copy_exit
  copied_whole f out u h g = rw (sym of ∙ passed fit u (sym h ∙ or)) (refl, g)

  pub copied_nothing : (f : ℕ → ℕ) (why : Refusal) (x : Result (Unit {0}) Refusal) → IsErrAnd x (λ o. o ≡ why) → r ≡ Err why
      → (x ≡ copy_answer (length values) (length dst)) × (dst ≡ copy_exit (copy_answer (length values) (length dst)) f values dst)
  unfolding copy_answer copy_exit
  copied_nothing f why x q h =
      let none = failed fit why (sym h ∙ or) in
      rw (sym of ∙ none.0) (err_is x why Length q none.1, refl)
