-- The table of points: windows w = 0 to 7, digits d = 0 to 15 (to 7 in window 7), entry (d 16^w) G.
use Rattle.std.specs.Prelude.{◌≡◌, ℕ, zero, suc, ◌+◌, ◌-◌, ◌*◌, ◌^◌, ◌<◌, cond, List, [], ◌∷◌, ◌++◌, length, nat_lt, slice_index}
use Rattle.algebra.specs.Circle.{plus, zero_point, multiple}
use Rattle.fields.specs.Words.{words31}
use Rattle.fields.specs.declared.m31.M31.{M31}
use Rattle.circle.specs.Point.{generator, point_of, Reduced}
use Rattle.circle.specs.Index.{index_point}
use Rattle.circle.specs.declared.point.CirclePoint.{CirclePoint}

-- how many windows there are
abbrev pub windows : ℕ
windows = 8

-- how many bits a digit has
abbrev pub digit_bits : ℕ
digit_bits = 4

-- digits of a window but the last
abbrev pub digits : ℕ
digits = 2 ^ digit_bits

-- digits of the last window, since indices below 2^31 have no more there
abbrev pub last_digits : ℕ
last_digits = 8

-- how many digits a window has; none where there is no such window
unfoldable pub digits_of : ℕ → ℕ
digits_of window = cond (nat_lt window (windows - 1)) digits (cond (nat_lt window windows) last_digits 0)

-- a window and a digit that the table has
pub record InTable (window digit : ℕ) : Type 0 where
  pub is_window : window < windows
  pub is_digit : digit < digits_of window

-- window after window, so many points lie before an entry
abbrev pub place : ℕ → ℕ → ℕ
place window digit = digits * window + digit

-- the point of a digit of a window
abbrev pub entry : ℕ → ℕ → ℕ × ℕ
entry window digit = index_point (digit * digits ^ window)

-- point k of a list of words, the x and y of each
abbrev pub point_at : List ℕ → ℕ → ℕ × ℕ
point_at words k = (slice_index words (2 * k), slice_index words (2 * k + 1))

-- the rule: at the place of every window and digit stands its entry
abbrev pub FollowsRule : List ℕ → Type 0
FollowsRule table = (window digit : ℕ) → InTable window digit → point_at table (place window digit) ≡ entry window digit

-- the words of n points from p on, each by `base` more than the one before
unfoldable pub run : ℕ → ℕ × ℕ → ℕ × ℕ → List ℕ
run zero base p = []
run (suc n) base p = p.0 ∷ p.1 ∷ run n base (plus words31 base p)

-- the words of a window: zero, its base, twice its base and so on
abbrev pub window_words : ℕ → ℕ × ℕ → List ℕ
window_words window base = run (digits_of window) base (zero_point words31)

-- the base of the window after it: what the next digit would have
abbrev pub next_base : ℕ → ℕ × ℕ → ℕ × ℕ
next_base window base = multiple words31 (digits_of window) base

-- the words of n windows, from `window` over `base` on
unfoldable pub windows_from : ℕ → ℕ → ℕ × ℕ → List ℕ
windows_from zero window base = []
windows_from (suc n) window base = window_words window base ++ windows_from n (suc window) (next_base window base)

-- the whole table, computed from G alone; that it follows the rule is a theorem (`TableRule`)
unfoldable pub table_words : List ℕ
table_words = windows_from windows 0 generator

-- its words: an x and a y for each digit of each window
abbrev pub table_length : ℕ
table_length = 2 * (digits * (windows - 1) + last_digits)

-- what filling the words of a window of n digits asks, and what it leaves
pub record FillingWindow (n : ℕ) (words : List ℕ) (base : CirclePoint M31) : Type 0 where
  pub long : length words ≡ 2 * n
  pub reduced : Reduced base

pub record FilledWindow (n : ℕ) (base : CirclePoint M31) (words : List ℕ) (next : CirclePoint M31) : Type 0 where
  pub filled : words ≡ run n (point_of base) (zero_point words31)
  pub next_base : point_of next ≡ multiple words31 n (point_of base)
  pub reduced : Reduced next
