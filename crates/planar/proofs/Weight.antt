-- On the grid one weight is above every side.
use Prim.Native.Nat.{ℕ, ◌≤◌, ◌<◌}
use native.Mathlib.Omega.{arith}
use lib.IntN.{ℤ, pos, ◌+ℤ◌, nat_abs}
use lib.Signed.{◌<ℤ◌}
use borrow.Author.Differences.{ints}
use Rattle.plane.specs.Plane.{S}
use Rattle.plane.specs.Signs.{top}
use Rattle.plane.specs.Spot.{Small}
use Rattle.plane.proofs.Bounds.{side_small}
use Rattle.links.specs.Links.{Links, to, place}
use Rattle.links.specs.Rules.{Placed}
use Rattle.planar.specs.Star.{spoke}
use Rattle.planar.specs.Convex.{Strict}
use Rattle.planar.proofs.Convex.{weighs}
use Rattle.planar.proofs.Faces.{to_in}
use Rattle.planar.proofs.Rings.{spoke_in}
use Rattle.planar.proofs.Views.{ranges_of, weave_of}

pub small_place : (m : Links) (v : ℕ) → Placed m v → Small (place m v)
small_place m v (p, q) = record { x_low = omega (arith, ints); x_high = omega (arith, ints); y_low = omega (arith, ints); y_high = omega (arith, ints) }

pub strict : Strict
strict m sd s sl i j l b =
    weighs m top big (place m (m.origin s)) (to m (spoke m s i)) (to m (spoke m s j)) (to m (spoke m s l)) (tip_in i) (tip_in j) (tip_in l) b
  where
    tip_in : (i : ℕ) → to m (spoke m s i) < m.n
    tip_in i = to_in m (ranges_of m sd) (weave_of m sd) (spoke m s i) (spoke_in m (ranges_of m sd) (weave_of m sd) s sl i)

    above : (z : ℤ) → nat_abs z ≤ 268402689 → pos 0 <ℤ (top +ℤ z)
    above z h = omega (arith, ints)

    big : (a b c : ℕ) → a < m.n → b < m.n → c < m.n → pos 0 <ℤ (top +ℤ S (place m a) (place m b) (place m c))
    big a b c la lb lc = above (S (place m a) (place m b) (place m c)) (side_small (place m a) (place m b) (place m c) (small_place m a (sd.placed a la)) (small_place m b (sd.placed b lb)) (small_place m c (sd.placed c lc)))
