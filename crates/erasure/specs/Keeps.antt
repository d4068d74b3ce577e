-- The statements: an erasure keeps a map sound, case by case, and whatever the entry is.
use Rattle.std.specs.Prelude.{◌≡◌, ℕ, suc, pred, ◌<◌, cond, ◌==◌}
use Rattle.links.specs.Links.{Links, halves, place}
use Rattle.links.specs.Rules.{Sound}
use Rattle.planar.specs.Star.{Inner}
use Rattle.erasure.specs.Erased.{erased}

-- K is m without v: sound, with one entry fewer, and each entry at its old place; the last has taken the number v
pub record Without (m : Links) (v : ℕ) (K : Links) : Type 0 where
  pub sound : Sound K
  pub fewer : suc K.n ≡ m.n
  pub places : (w : ℕ) → w < K.n → place K w ≡ place m (cond (w == v) (pred m.n) w)

-- an erasure keeps a map sound that has no inner face
abbrev pub LineKeepsSound : Type 0
LineKeepsSound = (m : Links) → Sound m → m.f ≡ 1 → (v : ℕ) → v < m.n → Without m v (erased m v)

-- where the entry lies inside
abbrev pub InsideKeepsSound : Type 0
InsideKeepsSound = (m : Links) → Sound m → 1 < m.f → (v : ℕ) → v < m.n → Inner m v → Without m v (erased m v)

-- where it is on the hull, with an outer spoke z
abbrev pub HullKeepsSound : Type 0
HullKeepsSound =
    (m : Links) → Sound m → 1 < m.f → (v : ℕ) → v < m.n → (z : ℕ) → z < halves m → m.origin z ≡ v → m.face z ≡ 0 → Without m v (erased m v)

-- whatever the entry is
abbrev pub KeepsSound : Type 0
KeepsSound = (m : Links) → Sound m → (v : ℕ) → v < m.n → Without m v (erased m v)
