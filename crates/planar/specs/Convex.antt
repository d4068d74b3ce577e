-- Around an entry the tips of its spokes are convex, seen through an inversion about it.
use Rattle.std.specs.Prelude.{ℕ, suc, ◌≤◌, ◌<◌, ℤ, pos, ◌+ℤ◌, ◌*ℤ◌, ◌≤ℤ◌, ◌<ℤ◌}
use Rattle.plane.specs.Plane.{Pt, S, C}
use Rattle.plane.specs.Signs.{top}
use Rattle.links.specs.Links.{Links, halves, place}
use Rattle.links.specs.Rules.{Sound}
use Rattle.planar.specs.Order.{Bulges}
use Rattle.planar.specs.Star.{spoke, tip, Ring, Inner, Fan}

-- the circle of a spoke, its next one and their entry has no entry inside
abbrev pub StarEmpty : Type 0
StarEmpty = (m : Links) → Sound m → (s : ℕ) → s < halves m → (i : ℕ) → 0 < m.face (spoke m s i) → (v : ℕ) → v < m.n → pos 0 ≤ℤ C (tip m s i) (tip m s (suc i)) (place m v) (place m (m.origin s))

-- the tips around an entry are in strictly convex position, seen through an inversion about it
abbrev pub ConvexInside : Type 0
ConvexInside = (m : Links) → Sound m → (s : ℕ) → s < halves m → Inner m (m.origin s) → (size : ℕ) → Ring m s size → (i j l : ℕ) → i < j → j < l → l < size → Bulges (place m (m.origin s)) (tip m s i) (tip m s j) (tip m s l)

-- so are those of a fan on the hull
abbrev pub ConvexHull : Type 0
ConvexHull = (m : Links) → Sound m → (s : ℕ) → s < halves m → (last : ℕ) → Fan m s last → (i j l : ℕ) → i < j → j < l → l ≤ last → Bulges (place m (m.origin s)) (tip m s i) (tip m s j) (tip m s l)

-- the same as one number: with a weight above every side
abbrev pub Weighs : Type 0
Weighs = (m : Links) (w : ℤ) → ((a b c : ℕ) → a < m.n → b < m.n → c < m.n → pos 0 <ℤ (w +ℤ S (place m a) (place m b) (place m c)))
    → (v : Pt) (a b c : ℕ) → a < m.n → b < m.n → c < m.n → Bulges v (place m a) (place m b) (place m c) → pos 0 <ℤ (w *ℤ C (place m a) (place m b) (place m c) v +ℤ S (place m a) (place m b) (place m c))

-- so with the weight of the grid
abbrev pub Strict : Type 0
Strict =
    (m : Links) → Sound m → (s : ℕ) → s < halves m → (i j l : ℕ) → Bulges (place m (m.origin s)) (tip m s i) (tip m s j) (tip m s l)
    → pos 0 <ℤ (top *ℤ C (tip m s i) (tip m s j) (tip m s l) (place m (m.origin s)) +ℤ S (tip m s i) (tip m s j) (tip m s l))
