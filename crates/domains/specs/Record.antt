-- What a call checks of a coset record: its log size, its indices and the words of its points, in this order, and then each point
-- against its index.
use Rattle.std.specs.Prelude.{◌≤◌, ◌≡◌, Bool, ◌&&◌, ◌++◌, leb, eqb}
use Rattle.fields.specs.Check.{Checks, need}
use Rattle.fields.specs.LogSize.{is_log_size}
use Rattle.fields.specs.declared.refusal.Refusal.TheVariants.{LogSize, Contradiction}
use Rattle.fields.specs.declared.m31.M31.{M31}
use Rattle.circle.specs.Point.{Reduced, point_of, of_point}
use Rattle.circle.specs.Point as P
use Rattle.circle.specs.Index.{IsIndex, in_range, index_point}
use Rattle.circle.specs.declared.point.CirclePoint.{CirclePoint}
use Rattle.circle.specs.declared.index.CirclePointIndex.{CirclePointIndex}
use Rattle.domains.specs.declared.coset.Coset.{Coset}
use Rattle.domains.specs.declared.canonic.CanonicCoset.{CanonicCoset}

-- a log size of at most 31, else number 6
abbrev pub log_size : Coset → Checks
log_size c = need (leb c.log_size 31) LogSize

-- both indices in range, else number 4
abbrev pub indices : Coset → Checks
indices c = in_range c.initial_index ++ in_range c.step_size

-- the words of both points below P, else number 1
abbrev pub words : Coset → Checks
words c = P.words c.initial ++ P.words c.step

-- whether both words are equal
abbrev pub same_point : CirclePoint M31 → CirclePoint M31 → Bool
same_point p q = eqb p.x.0 q.x.0 && eqb p.y.0 q.y.0

-- p is the point of index k, else number 14
abbrev pub point_of_index : CirclePoint M31 → CirclePointIndex → Checks
point_of_index p k = need (same_point p (of_point (index_point k.0))) Contradiction

-- each point is that of its index
abbrev pub points : Coset → Checks
points c = point_of_index c.initial c.initial_index ++ point_of_index c.step c.step_size

-- all but the log size
abbrev pub indices_and_points : Coset → Checks
indices_and_points c = indices c ++ words c ++ points c

-- a coset, also as the half coset of a domain
unfoldable pub check : Coset → Checks
check c = log_size c ++ indices_and_points c

-- a canonic coset: its log size is in 1..30
unfoldable pub check_canonic : CanonicCoset → Checks
check_canonic c = need (is_log_size c.coset.log_size) LogSize ++ indices_and_points c.coset

-- two cosets: the first wholly before the second
abbrev pub check_two : Coset → Coset → Checks
check_two c d = check c ++ check d

-- a coset and an index: the coset wholly before the index
abbrev pub check_with_index : Coset → CirclePointIndex → Checks
check_with_index c k = check c ++ in_range k

-- what a record has that passes its checks
pub record Fits (c : Coset) : Type 0 where
  pub log_size_fits : c.log_size ≤ 31
  pub initial_index_fits : IsIndex c.initial_index
  pub step_size_fits : IsIndex c.step_size
  pub initial_reduced : Reduced c.initial
  pub step_reduced : Reduced c.step
  pub initial_agrees : point_of c.initial ≡ index_point c.initial_index.0
  pub step_agrees : point_of c.step ≡ index_point c.step_size.0

-- what a canonic record has that passes its checks
pub record FitsCanonic (c : CanonicCoset) : Type 0 where
  pub coset : Fits c.coset
  pub least : 1 ≤ c.coset.log_size
  pub most : c.coset.log_size ≤ 30
