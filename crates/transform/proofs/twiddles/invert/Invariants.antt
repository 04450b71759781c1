use Prim.Native.Nat.{◌*◌, ◌^◌, ◌<◌}
use mathlib.Core.Path.{◌≡◌}
use lib.ListN.{length, set}
use Rattle.transform.proofs.Inverting.{Inverting}
use Rattle.transform.proofs.twiddles.invert.Given as goal

-- Where the loop begins words 0 and 1 are inverted already: `root` put back in both gives the tree of entry. The bound on `half`
-- keeps a word's offset in bytes within 64 bits.
abbrev pub invariant-loop-i : goal.invariant-loop-i
invariant-loop-i l = (2 * l.half ≡ length l.tree) × (8 * l.half < 2 ^ 64) × Inverting l.i
    (set (set l.initial.tree 0 l.root) 1 l.root) l.tree
