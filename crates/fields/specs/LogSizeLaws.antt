-- A log size passes exactly where it is from 1 to 30.
use Rattle.std.specs.Prelude.{◌≡◌, ℕ, ◌≤◌, true, nat_le}
use Rattle.std.proofs.Math.Bool.{and-eq-true_iff}
use Rattle.std.proofs.Common.{leb-true, le-leb}
use Rattle.fields.specs.LogSize.{is_log_size}

pub log_size_fits_lem : (n : ℕ) → is_log_size n ≡ true → (1 ≤ n) × (n ≤ 30)
log_size_fits_lem n e = let h = (and-eq-true_iff (nat_le 1 n) (nat_le n 30)).0 e in (leb-true 1 n h.0, leb-true n 30 h.1)

pub log_size_passes : (n : ℕ) → 1 ≤ n → n ≤ 30 → is_log_size n ≡ true
log_size_passes n lo hi = (and-eq-true_iff (nat_le 1 n) (nat_le n 30)).1 (le-leb 1 n lo, le-leb n 30 hi)
