-- Vectors of four whole numbers and their determinant. A point is lifted onto the paraboloid; inf is the point at infinity.
use Rattle.std.specs.Prelude.{ℤ, pos, ◌+ℤ◌, ◌-ℤ◌, ◌*ℤ◌}
use Rattle.plane.specs.Plane.{Pt, sq}

-- a vector, by its coordinates
pub record Vec : Type 0 where
  pub c0 : ℤ
  pub c1 : ℤ
  pub c2 : ℤ
  pub c3 : ℤ

-- the determinant of two rows
abbrev pub minor : ℤ → ℤ → ℤ → ℤ → ℤ
minor p q r s = p *ℤ s -ℤ q *ℤ r

-- the determinant of four rows, by the first two and the last two
unfoldable pub D : Vec → Vec → Vec → Vec → ℤ
D a b c d =
    minor a.c0 a.c1 b.c0 b.c1 *ℤ minor c.c2 c.c3 d.c2 d.c3
    -ℤ minor a.c0 a.c2 b.c0 b.c2 *ℤ minor c.c1 c.c3 d.c1 d.c3
    +ℤ minor a.c0 a.c3 b.c0 b.c3 *ℤ minor c.c1 c.c2 d.c1 d.c2
    +ℤ minor a.c1 a.c2 b.c1 b.c2 *ℤ minor c.c0 c.c3 d.c0 d.c3
    -ℤ minor a.c1 a.c3 b.c1 b.c3 *ℤ minor c.c0 c.c2 d.c0 d.c2
    +ℤ minor a.c2 a.c3 b.c2 b.c3 *ℤ minor c.c0 c.c1 d.c0 d.c1

-- the value at a of the linear form with the coefficients f
unfoldable pub on : Vec → Vec → ℤ
on f a = f.c0 *ℤ a.c0 +ℤ f.c1 *ℤ a.c1 +ℤ f.c2 *ℤ a.c2 +ℤ f.c3 *ℤ a.c3

-- (x, y, x² + y², 1)
unfoldable pub lift : Pt → Vec
lift p = record { c0 = p.x; c1 = p.y; c2 = sq p.x p.y; c3 = pos 1 }

-- (0, 0, 1, 0)
unfoldable pub inf : Vec
inf = record { c0 = pos 0; c1 = pos 0; c2 = pos 1; c3 = pos 0 }

-- m a + n b
unfoldable pub mix : ℤ → Vec → ℤ → Vec → Vec
mix m a n b =
    record { c0 = m *ℤ a.c0 +ℤ n *ℤ b.c0; c1 = m *ℤ a.c1 +ℤ n *ℤ b.c1; c2 = m *ℤ a.c2 +ℤ n *ℤ b.c2; c3 = m *ℤ a.c3 +ℤ n *ℤ b.c3 }

-- n a - b
unfoldable pub less : ℤ → Vec → Vec → Vec
less n a b =
    record { c0 = n *ℤ a.c0 -ℤ b.c0; c1 = n *ℤ a.c1 -ℤ b.c1; c2 = n *ℤ a.c2 -ℤ b.c2; c3 = n *ℤ a.c3 -ℤ b.c3 }
