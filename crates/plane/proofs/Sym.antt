-- Sides, circles and determinants over expressions. Point i has the variables 2 i and 2 i + 1; vector i has 4 i to 4 i + 3.
use Rattle.std.proofs.Common.{ℕ, ◌+◌, ◌*◌, List, [], ◌∷◌, ℤ, pos}
use Rattle.zring.proofs.Ring.{E, v, k, ◌⊹◌, ◌⊖◌, ◌⊛◌}
use Rattle.plane.specs.Plane.{Pt}
use Rattle.plane.specs.Vec.{Vec}

-- ---- points
abbrev pub X : ℕ → E
X i = v (2 * i)

abbrev pub Y : ℕ → E
Y i = v (2 * i + 1)

abbrev pub SE : ℕ → ℕ → ℕ → E
SE a b q = (X b ⊖ X a) ⊛ (Y q ⊖ Y a) ⊖ (Y b ⊖ Y a) ⊛ (X q ⊖ X a)

abbrev pub sq_e : E → E → E
sq_e s t = s ⊛ s ⊹ t ⊛ t

abbrev pub det3E : E → E → E → E → E → E → E → E → E → E
det3E a b c d e f g h i = a ⊛ (e ⊛ i ⊖ f ⊛ h) ⊖ b ⊛ (d ⊛ i ⊖ f ⊛ g) ⊹ c ⊛ (d ⊛ h ⊖ e ⊛ g)

abbrev pub CE : ℕ → ℕ → ℕ → ℕ → E
CE a b c d =
    det3E (X a ⊖ X d) (Y a ⊖ Y d) (sq_e (X a ⊖ X d) (Y a ⊖ Y d))
    (X b ⊖ X d) (Y b ⊖ Y d) (sq_e (X b ⊖ X d) (Y b ⊖ Y d))
    (X c ⊖ X d) (Y c ⊖ Y d) (sq_e (X c ⊖ X d) (Y c ⊖ Y d))

-- a squared distance
abbrev pub FE : ℕ → ℕ → E
FE a b = sq_e (X a ⊖ X b) (Y a ⊖ Y b)

-- a scalar product
abbrev pub TE : ℕ → ℕ → ℕ → E
TE o a b = (X a ⊖ X o) ⊛ (X b ⊖ X o) ⊹ (Y a ⊖ Y o) ⊛ (Y b ⊖ Y o)

-- the coordinates of points, in order
abbrev pub coords : List Pt → List ℤ
coords [] = []
coords (p ∷ ps) = p.x ∷ p.y ∷ coords ps

-- ---- vectors
-- four expressions
pub record Four : Type 0 where
  pub e0 : E
  pub e1 : E
  pub e2 : E
  pub e3 : E

-- vector i
abbrev pub V : ℕ → Four
V i = record { e0 = v (4 * i); e1 = v (4 * i + 1); e2 = v (4 * i + 2); e3 = v (4 * i + 3) }

-- the lift of point i
abbrev pub PE : ℕ → Four
PE i = record { e0 = v (2 * i); e1 = v (2 * i + 1); e2 = v (2 * i) ⊛ v (2 * i) ⊹ v (2 * i + 1) ⊛ v (2 * i + 1); e3 = k (pos 1) }

abbrev pub inf_e : Four
inf_e = record { e0 = k (pos 0); e1 = k (pos 0); e2 = k (pos 1); e3 = k (pos 0) }

abbrev pub minor_e : E → E → E → E → E
minor_e p q r s = p ⊛ s ⊖ q ⊛ r

abbrev pub DE : Four → Four → Four → Four → E
DE a b c d =
    minor_e a.e0 a.e1 b.e0 b.e1 ⊛ minor_e c.e2 c.e3 d.e2 d.e3
    ⊖ minor_e a.e0 a.e2 b.e0 b.e2 ⊛ minor_e c.e1 c.e3 d.e1 d.e3
    ⊹ minor_e a.e0 a.e3 b.e0 b.e3 ⊛ minor_e c.e1 c.e2 d.e1 d.e2
    ⊹ minor_e a.e1 a.e2 b.e1 b.e2 ⊛ minor_e c.e0 c.e3 d.e0 d.e3
    ⊖ minor_e a.e1 a.e3 b.e1 b.e3 ⊛ minor_e c.e0 c.e2 d.e0 d.e2
    ⊹ minor_e a.e2 a.e3 b.e2 b.e3 ⊛ minor_e c.e0 c.e1 d.e0 d.e1

-- a linear form
abbrev pub on_e : Four → Four → E
on_e f a = f.e0 ⊛ a.e0 ⊹ f.e1 ⊛ a.e1 ⊹ f.e2 ⊛ a.e2 ⊹ f.e3 ⊛ a.e3

-- the coordinates of vectors, in order, and then more numbers
abbrev pub entries_and : List Vec → List ℤ → List ℤ
entries_and [] more = more
entries_and (a ∷ rest) more = a.c0 ∷ a.c1 ∷ a.c2 ∷ a.c3 ∷ entries_and rest more

abbrev pub entries : List Vec → List ℤ
entries vs = entries_and vs []
