-- What is left to show of a map with an inner face, and of one without.
use Rattle.std.specs.Prelude.{◌≡◌, ℕ, ◌+◌, ◌<◌, pos}
use Rattle.plane.specs.Plane.{S}
use Rattle.links.specs.Links.{Links, rev, halves, to, place}
use Rattle.links.specs.Rules.{Counted, Placed, Apart, Single, Clear, Sound}
use Rattle.planar.specs.Parts.{InRange, Woven, CcwFaces, HullRule, CircleRule, OuterClear, OuterOnly, Places, Long}

-- no two edges share both ends, if no two outer halves do
abbrev pub EdgesDiffer : Type 0
EdgesDiffer =
    (m : Links) → InRange m → Woven m → CcwFaces m → HullRule m → OuterClear m → OuterOnly m → Long m → 1 < m.f → (h k : ℕ) → h < halves m → k < halves m
    → m.origin h ≡ m.origin k → to m h ≡ to m k → h ≡ k

-- the sides of an edge are different faces
abbrev pub SidesDiffer : Type 0
SidesDiffer = (m : Links) → InRange m → Woven m → CcwFaces m → HullRule m → Long m → 1 < m.f → (h : ℕ) → h < halves m → ¬ (m.face h ≡ m.face (rev h))

-- an edge with both sides outer has all entries on its line
abbrev pub BothOuter : Type 0
BothOuter = (m : Links) → HullRule m → (h v : ℕ) → h < halves m → v < m.n → m.face h ≡ 0 → m.face (rev h) ≡ 0 → S (place m (m.origin h)) (place m (to m h)) (place m v) ≡ pos 0

-- rule 6 at every record
pub record EdgeRule (m : Links) : Type 0 where
  pub apart : (k : ℕ) → k < m.e → Apart m k
  pub single : (k l : ℕ) → k < m.e → l < m.e → Single m k l
  pub clear : (k v : ℕ) → k < m.e → v < m.n → Clear m k v

-- with an inner face, rule 6 follows
abbrev pub Sixth : Type 0
Sixth = (m : Links) → InRange m → Woven m → CcwFaces m → HullRule m → CircleRule m → 1 < m.f → Places m → OuterOnly m → EdgeRule m

-- with an inner face, a map is sound by these
abbrev pub Enough : Type 0
Enough =
    (m : Links) → Counted m → ((v : ℕ) → v < m.n → Placed m v) → 0 < m.n → InRange m → Woven m → m.n + m.f ≡ m.e + 2 → CcwFaces m → HullRule m → CircleRule m
    → 1 < m.f → Places m → OuterOnly m → Sound m

-- with no inner face, by these
abbrev pub EnoughLine : Type 0
EnoughLine =
    (m : Links) → Counted m → ((v : ℕ) → v < m.n → Placed m v) → InRange m → Woven m → 0 < m.n → m.f ≡ 1 → m.n ≡ m.e + 1 → EdgeRule m → HullRule m → Sound m

-- and by these with no entry at all
abbrev pub EnoughEmpty : Type 0
EnoughEmpty = (m : Links) → InRange m → m.n ≡ 0 → m.e ≡ 0 → m.f ≡ 1 → Sound m
