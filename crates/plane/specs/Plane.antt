-- Points of the plane, the side of a line and the inside of a circle.
use Rattle.std.specs.Prelude.{Bool, ◌&&◌, ℤ, pos, ◌+ℤ◌, ◌-ℤ◌, ◌*ℤ◌, int_le}

-- a point, by its coordinates
pub record Pt : Type 0 where
  pub x : ℤ
  pub y : ℤ

-- the point at a and b
abbrev pub pt : ℤ → ℤ → Pt
pt a b = record { x = a; y = b }

-- twice the area of a, b, q: positive where q is left of the way from a to b
unfoldable pub S : Pt → Pt → Pt → ℤ
S a b q = (b.x -ℤ a.x) *ℤ (q.y -ℤ a.y) -ℤ (b.y -ℤ a.y) *ℤ (q.x -ℤ a.x)

-- the sum of two squares
abbrev pub sq : ℤ → ℤ → ℤ
sq u v = u *ℤ u +ℤ v *ℤ v

-- the determinant of three rows
abbrev pub det3 : ℤ → ℤ → ℤ → ℤ → ℤ → ℤ → ℤ → ℤ → ℤ → ℤ
det3 a b c d e f g h i = a *ℤ (e *ℤ i -ℤ f *ℤ h) -ℤ b *ℤ (d *ℤ i -ℤ f *ℤ g) +ℤ c *ℤ (d *ℤ h -ℤ e *ℤ g)

-- positive where d is inside the circle through a, b, c, which turn left
unfoldable pub C : Pt → Pt → Pt → Pt → ℤ
C a b c d =
    det3 (a.x -ℤ d.x) (a.y -ℤ d.y) (sq (a.x -ℤ d.x) (a.y -ℤ d.y))
    (b.x -ℤ d.x) (b.y -ℤ d.y) (sq (b.x -ℤ d.x) (b.y -ℤ d.y))
    (c.x -ℤ d.x) (c.y -ℤ d.y) (sq (c.x -ℤ d.x) (c.y -ℤ d.y))

-- the square of the distance
unfoldable pub far : Pt → Pt → ℤ
far a b = sq (a.x -ℤ b.x) (a.y -ℤ b.y)

-- the scalar product of a - o and b - o: negative where o, on the line of a and b, lies strictly between them
unfoldable pub dot : Pt → Pt → Pt → ℤ
dot o a b = (a.x -ℤ o.x) *ℤ (b.x -ℤ o.x) +ℤ (a.y -ℤ o.y) *ℤ (b.y -ℤ o.y)

-- q is on the line of a and b and not outside the circle on that diameter: it lies on the segment from a to b, ends included
abbrev pub on_segment : Pt → Pt → Pt → Bool
on_segment a b q = int_le (S a b q) (pos 0) && int_le (pos 0) (S a b q) && int_le (dot q a b) (pos 0)
