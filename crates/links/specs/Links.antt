-- A doubly connected edge list, apart from how it is stored: entries, halves and faces are numbers from 0.
use Rattle.std.specs.Prelude.{◌≡◌, ℕ, zero, suc, ◌+◌, ◌-◌, ◌*◌, ◌%◌, pos}
use Rattle.plane.specs.Plane.{Pt, pt}

-- n entries with place and out_edge, e edges of two halves each, f faces with adjacent_edge
pub record Links : Type 0 where
  pub n : ℕ
  pub e : ℕ
  pub f : ℕ
  pub x : ℕ → ℕ
  pub y : ℕ → ℕ
  pub out : ℕ → ℕ
  pub adj : ℕ → ℕ
  pub next : ℕ → ℕ
  pub prev : ℕ → ℕ
  pub face : ℕ → ℕ
  pub origin : ℕ → ℕ

-- a link that leads nowhere
abbrev pub none : ℕ
none = 4294967295

-- the other half of the same edge, 2k and 2k + 1: the last bit flipped
unfoldable pub rev : ℕ → ℕ
rev h = h + 1 - 2 * (h % 2)

module _ (m : Links) where
  abbrev pub halves : ℕ
  halves = 2 * m.e

  -- where a half leads
  abbrev pub to : ℕ → ℕ
  to h = m.origin (rev h)

  -- the next half out of the same entry, clockwise, and counterclockwise
  abbrev pub cw : ℕ → ℕ
  cw h = m.next (rev h)

  abbrev pub ccw : ℕ → ℕ
  ccw h = rev (m.prev h)

  -- the place of an entry
  abbrev pub place : ℕ → Pt
  place v = pt (pos (m.x v)) (pos (m.y v))

-- after j steps from s
abbrev pub walk : (ℕ → ℕ) → ℕ → ℕ → ℕ
walk step zero s = s
walk step (suc j) s = step (walk step j s)

-- k is reached from s by some number of steps
abbrev pub Reached : (ℕ → ℕ) → ℕ → ℕ → Type 0
Reached step s k = (j : ℕ) × (walk step j s ≡ k)
