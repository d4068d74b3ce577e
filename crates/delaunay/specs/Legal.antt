-- A triangulation with legal edges is Delaunay.
use Rattle.std.specs.Prelude.{◌≡◌, ℕ, ◌<◌, ◌≤◌, pos, ◌≤ℤ◌}
use Rattle.plane.specs.Plane.{C}
use Rattle.links.specs.Links.{Links, rev, halves}
use Rattle.links.specs.Rules.{corner0, corner1, corner2, Sound}
use Rattle.planar.specs.Parts.{InRange, Woven, CcwFaces, HullRule, CircleRule, OuterClear, OuterOnly, Long}

-- every edge between two inner faces is legal: the far corner of one is not inside the circle of the other
abbrev pub LegalEdges : Links → Type 0
LegalEdges m =
    (h : ℕ) → h < halves m → ¬ (m.face h ≡ 0) → ¬ (m.face (rev h) ≡ 0) → C (corner0 m h) (corner1 m h) (corner2 m h) (corner2 m (rev h)) ≤ℤ pos 0

-- then no entry is inside the circle of an inner face
abbrev pub LegalIsEmpty : Type 0
LegalIsEmpty = (m : Links) → 2 ≤ m.n → InRange m → Woven m → CcwFaces m → HullRule m → OuterClear m → OuterOnly m → Long m → LegalEdges m → CircleRule m

-- and the edges of a sound map are legal
abbrev pub SoundIsLegal : Type 0
SoundIsLegal = (m : Links) → Sound m → LegalEdges m
