-- Where every word of a column goes, and what each call of orders answers, offset and previous among them.
use Rattle.std.specs.Prelude.{ℕ, zero, suc, ◌+◌, ◌-◌, ◌*◌, ◌/◌, ◌%◌, ◌^◌, Bool, true, cond}
use Rattle.std.specs.Prelude.{not, ◌&&◌, List, [], ◌∷◌, ◌++◌, leb, ltb, eqb, ℤ, length, get_or, drop, Option, Some, None, unsigned_abs}
use Rattle.std.specs.Prelude.{Result, Ok, Err}
use Rattle.std.specs.Int.{is_negative}
use Rattle.fields.specs.Check.{need, checked, outcome}
use Rattle.fields.specs.LogSize.{is_log_size}
use Rattle.fields.specs.Search.{first}
use Rattle.fields.specs.declared.refusal.Refusal.{Refusal}
use Rattle.fields.specs.declared.refusal.Refusal.TheVariants.{LogSize, Index, Scalar, Length}
use Rattle.orders.specs.BitReverse.{reverse_bits}

-- ---- positions

-- the n low bits in reverse, but i unchanged for log size 0
unfoldable pub bit_reverse_index : ℕ → ℕ → ℕ
bit_reverse_index i zero = i
bit_reverse_index i (suc n) = reverse_bits (suc n) i

-- a log size of at most 64, else number 6
unfoldable pub bit_reverse_index_answer : ℕ → ℕ → Result ℕ Refusal
bit_reverse_index_answer i n = checked (need (leb n 64) LogSize) (bit_reverse_index i n)

-- The order map, from a position in a coset of so many points to the one in the circle domain:
-- even k to k / 2, odd k to (2 size - k) / 2 rounded down.
unfoldable pub to_domain : ℕ → ℕ → ℕ
to_domain size k = cond (eqb (k % 2) 0) (k / 2) ((2 * size - k) / 2)

-- the order map back: the first half holds the even positions, the second the odd ones from the last down
unfoldable pub to_coset : ℕ → ℕ → ℕ
to_coset size i = cond (ltb i (size / 2)) (2 * i) (2 * (size - 1 - i) + 1)

-- a log size of at most 31, else number 6; a position within the coset, else number 4
unfoldable pub coset_index_answer : ℕ → ℕ → Result ℕ Refusal
coset_index_answer k n = checked (need (leb n 31) LogSize ++ need (ltb k (2 ^ n)) Index) (to_domain (2 ^ n) k)

-- ---- columns

-- l's words at the places f k, f (k + 1), .., n of them
unfoldable pub words_at : (ℕ → ℕ) → ℕ → ℕ → List ℕ → List ℕ
words_at f k zero l = []
words_at f k (suc n) l = get_or l (f k) 0 ∷ words_at f (suc k) n l

-- l reordered: its word k comes from place f k
abbrev pub reordered : (ℕ → ℕ) → List ℕ → List ℕ
reordered f l = words_at f 0 (length l) l

-- the n of 2^n = size, 64 where there is none
abbrev pub log_size : ℕ → ℕ
log_size size = first (λ n. eqb (2 ^ n) size) 64

-- the same, None where there is none
abbrev pub exact_log_size : ℕ → Option ℕ
exact_log_size size = cond (ltb (log_size size) 64) (Some (log_size size)) None

-- of the two in-place orders: the length is a power of two, else number 8
unfoldable pub in_place_answer : ℕ → Result (Unit {0}) Refusal
in_place_answer size = outcome (need (ltb (log_size size) 64) Length)

-- what a call with this answer leaves of l
unfoldable pub in_place_exit : Result (Unit {0}) Refusal → (ℕ → ℕ) → List ℕ → List ℕ
in_place_exit (Ok done) f l = reordered f l
in_place_exit (Err why) f l = l

-- `bit_reverse` takes word k from place reverse_bits n k, `bit_reverse_coset_to_circle_domain_order` from here: the order
-- map, then bit reversal
unfoldable pub coset_bit_reversed : ℕ → ℕ → ℕ
coset_bit_reversed n k = reverse_bits n (to_domain (2 ^ n) k)

-- a destination no shorter than the values, which are even in number
abbrev pub lengths_fit : ℕ → ℕ → Bool
lengths_fit values dst = leb values dst && eqb (values % 2) 0

-- of the two copying orders: the lengths fit, else number 8
unfoldable pub copy_answer : ℕ → ℕ → Result (Unit {0}) Refusal
copy_answer values dst = outcome (need (lengths_fit values dst) Length)

-- what a call with this answer leaves in the destination: f is to_coset in `coset_order_to_circle_domain_order`, to_domain
-- in `circle_domain_order_to_coset_order`
unfoldable pub copy_exit : Result (Unit {0}) Refusal → (ℕ → ℕ) → List ℕ → List ℕ → List ℕ
copy_exit (Ok done) f values dst = reordered f values ++ drop (length values) dst
copy_exit (Err why) f values dst = dst

-- ---- offsets

-- s places from p round a circle of so many places, forward or back
abbrev pub moved : Bool → ℕ → ℕ → ℕ → ℕ
moved back size p s = cond back ((p + (size - s % size)) % size) ((p + s) % size)

-- s places from element p of a circle domain whose halves have so many elements, each half a circle of its own; the
-- second half holds the conjugates, so it runs the other way
unfoldable pub offset_element : Bool → ℕ → ℕ → ℕ → ℕ
offset_element back half p s = cond (ltb p half) (moved back half p s) (moved (not back) half (p - half) s + half)

-- the positions are bit-reversed; a step of the smaller domain is 2^(eval - domain - 1) places
abbrev pub offset_index : ℕ → ℕ → ℕ → Bool → ℕ → ℕ
offset_index i domain eval back steps =
    reverse_bits eval (offset_element back (2 ^ (eval - 1)) (reverse_bits eval i) (steps * 2 ^ (eval - domain - 1)))

-- eval is in 1..30, and domain is below it
abbrev pub is_smaller_domain : ℕ → ℕ → Bool
is_smaller_domain domain eval = is_log_size eval && ltb domain eval

-- log sizes that fit, else number 6; an offset within 2^31 on either side, else number 11
unfoldable pub offset_answer : ℕ → ℕ → ℕ → ℤ → Result ℕ Refusal
offset_answer i domain eval offset =
    checked (need (is_smaller_domain domain eval) LogSize ++ need (leb (unsigned_abs offset) (2 ^ 31)) Scalar)
    (offset_index i domain eval (is_negative offset) (unsigned_abs offset))

-- eval in 1..30 and domain below it, else number 6; one step back
unfoldable pub previous_answer : ℕ → ℕ → ℕ → Result ℕ Refusal
previous_answer i domain eval =
    checked (need (is_smaller_domain domain eval) LogSize) (offset_index i domain eval true 1)
