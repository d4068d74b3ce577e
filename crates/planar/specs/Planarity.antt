-- No rule says that edges do not cross: it follows.
use Rattle.std.specs.Prelude.{◌≡◌, ℕ, ◌<◌, pos, ◌≤ℤ◌, ◌<ℤ◌}
use Rattle.plane.specs.Plane.{Pt, S}
use Rattle.links.specs.Links.{Links, halves, to, ccw, place}
use Rattle.planar.specs.Parts.{InRange, Woven, CcwFaces, HullRule, OuterClear, OuterOnly}

-- seen from the origin of h, t lies in the sector from h, itself included, to the next half counterclockwise, itself excluded
pub record Sector (m : Links) (h : ℕ) (t : Pt) : Type 0 where
  pub since : pos 0 ≤ℤ S (place m (m.origin h)) (place m (to m h)) t
  pub until : pos 0 <ℤ S (place m (m.origin h)) t (place m (to m (ccw m h)))

-- at each entry, every direction lies in at most one sector
abbrev pub Planar : Type 0
Planar =
    (m : Links) → InRange m → Woven m → CcwFaces m → HullRule m → OuterClear m → OuterOnly m → (h k : ℕ) (t : Pt) → h < halves m → k < halves m
    → 0 < m.face h → 0 < m.face k → m.origin h ≡ m.origin k → Sector m h t → Sector m k t → h ≡ k
