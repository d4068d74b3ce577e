-- Places of the pad as points of the plane.
use Rattle.std.specs.Prelude.{ℕ, pos, ◌≤ℤ◌}
use Rattle.plane.specs.Plane.{Pt, pt}
use Rattle.plane.specs.declared.place.Place.{Place}

-- the point at two naturals
abbrev pub «at» : ℕ → ℕ → Pt
«at» a b = pt (pos a) (pos b)

-- the point of a place
abbrev pub spot : Place → Pt
spot p = «at» p.x p.y

-- a point with coordinates 0 to 16383
pub record Small (a : Pt) : Type 0 where
  pub x_low : pos 0 ≤ℤ a.x
  pub x_high : a.x ≤ℤ pos 16383
  pub y_low : pos 0 ≤ℤ a.y
  pub y_high : a.y ≤ℤ pos 16383
