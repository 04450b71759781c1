use Rattle.std.proofs.Common.{◌≡◌, ℕ, ◌+◌, ◌%◌, ◌<◌, ◌≤◌, length, get_or, refl, subst, arith, ltb-true}
use borrow.Author.Tests.{lt-leb}
use Rattle.algebra.specs.M31.{P}
use Rattle.fields.specs.Columns.{is_bad}
use Rattle.fields.specs.SearchLaws.{first_none}
use Rattle.fields.specs.Seen.{Seen, seen_none, seen_next, or_above}
use Rattle.fields.proofs.columns.all_below_p.Invariants.{and_next}
use Rattle.fields.proofs.columns.all_below_p.Goals as goal

below_p_of : (w seen : ℕ) → w < 4294967296 → and_next w ≤ seen → seen < 2147483648 → w < P
below_p_of w seen h a l = let o = or_above w ((w + 1) % 4294967296) in omega (arith, o.0, o.1)

pub loop-word-init : goal.loop-word-init
loop-word-init c = seen_none and_next _ _

pub loop-word-preserved : goal.loop-word-preserved
loop-word-preserved c = let at = c.loop-word in seen_next and_next _ _ _ _ at.invariant refl

pub returns : goal.returns
returns c = let at = c.loop-word in
    let column = c.args.column.now in
    let whole : at.word-index ≡ length column = omega arith in
    let all : Seen and_next column (length column) at.seen = subst (λ (i : ℕ). Seen and_next column i at.seen) whole at.invariant in
    λ e. first_none (is_bad column) (length column) (length column) refl (record {
      none = λ j l. lt-leb P (get_or column j 0) (below_p_of (get_or column j 0) at.seen (c.type_inv.column j).fits (all.each j l) (ltb-true at.seen 2147483648 e));
    })
