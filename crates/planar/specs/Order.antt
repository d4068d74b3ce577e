-- The order of directions around a place.
use Rattle.std.specs.Prelude.{◌≡◌, ◌⊎◌, ℤ, pos, ◌<ℤ◌}
use Rattle.plane.specs.Plane.{Pt, S, C, dot}

-- at least two of three numbers are above 0
abbrev pub Two : ℤ → ℤ → ℤ → Type 0
Two p q r = ((pos 0 <ℤ p) × (pos 0 <ℤ q)) ⊎ (((pos 0 <ℤ q) × (pos 0 <ℤ r)) ⊎ ((pos 0 <ℤ r) × (pos 0 <ℤ p)))

-- seen from v, counterclockwise: first a, then b, then c, before a full turn
pub record Ccw3 (v a b c : Pt) : Type 0 where
  pub most : Two (S v a b) (S v b c) (S v c a)

-- a and b lie in one direction from v
pub record Along (v a b : Pt) : Type 0 where
  pub line : S v a b ≡ pos 0
  pub ahead : pos 0 <ℤ dot v a b

-- seen through an inversion about v, the way a, b, c turns left: by their circle and v, and by their side where all four are on one circle
abbrev pub Bulges : Pt → Pt → Pt → Pt → Type 0
Bulges v a b c = (pos 0 <ℤ C a b c v) ⊎ ((C a b c v ≡ pos 0) × (pos 0 <ℤ S a b c))
