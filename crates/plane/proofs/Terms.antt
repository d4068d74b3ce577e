-- Identities with distances and scalar products.
use Rattle.std.proofs.Common.{◌≡◌, [], ◌∷◌, ℤ, ◌+ℤ◌, ◌-ℤ◌, ◌*ℤ◌}
use Rattle.zring.proofs.Ring.{E, v, ◌⊹◌, ◌⊖◌, ◌⊛◌, ring}
use Rattle.plane.specs.Plane.{Pt, S, C, sq, far, dot}
use Rattle.plane.proofs.Sym.{X, Y, SE, CE, sq_e, FE, TE, coords}

-- three points, with the weights l, m and n
pub jensen3 : (l m n : ℤ) (a b c o : Pt) → (l +ℤ m +ℤ n) *ℤ (l *ℤ far a o +ℤ m *ℤ far b o +ℤ n *ℤ far c o)
    ≡ sq (l *ℤ (a.x -ℤ o.x) +ℤ m *ℤ (b.x -ℤ o.x) +ℤ n *ℤ (c.x -ℤ o.x)) (l *ℤ (a.y -ℤ o.y) +ℤ m *ℤ (b.y -ℤ o.y) +ℤ n *ℤ (c.y -ℤ o.y))
    +ℤ (l *ℤ m *ℤ far a b +ℤ l *ℤ n *ℤ far a c +ℤ m *ℤ n *ℤ far b c)
unfolding far
jensen3 l m n a b c o =
    ring ((L ⊹ M ⊹ N) ⊛ (L ⊛ FE 0 3 ⊹ M ⊛ FE 1 3 ⊹ N ⊛ FE 2 3))
    (sq_e (L ⊛ (X 0 ⊖ X 3) ⊹ M ⊛ (X 1 ⊖ X 3) ⊹ N ⊛ (X 2 ⊖ X 3)) (L ⊛ (Y 0 ⊖ Y 3) ⊹ M ⊛ (Y 1 ⊖ Y 3) ⊹ N ⊛ (Y 2 ⊖ Y 3))
    ⊹ (L ⊛ M ⊛ FE 0 1 ⊹ L ⊛ N ⊛ FE 0 2 ⊹ M ⊛ N ⊛ FE 1 2))
    (a.x ∷ a.y ∷ b.x ∷ b.y ∷ c.x ∷ c.y ∷ o.x ∷ o.y ∷ l ∷ m ∷ n ∷ []) tt
  where
    L : E
    L = v 8

    M : E
    M = v 9

    N : E
    N = v 10

-- the squares of side and scalar product
pub lagrange : (o a b : Pt) → far o a *ℤ far o b ≡ S o a b *ℤ S o a b +ℤ dot o a b *ℤ dot o a b
unfolding far dot S
lagrange o a b = ring (FE 0 1 ⊛ FE 0 2) (SE 0 1 2 ⊛ SE 0 1 2 ⊹ TE 0 1 2 ⊛ TE 0 1 2) (coords (o ∷ a ∷ b ∷ [])) tt

-- a flip, weighed by the areas of its faces
pub flip_id : (a b c d : Pt) → S d c a *ℤ C a b c d ≡ S c d b *ℤ (S b a d *ℤ far c a +ℤ S a b c *ℤ far d a) -ℤ S b a d *ℤ S a b c *ℤ far c d
unfolding far S C
flip_id a b c d =
    ring (SE 3 2 0 ⊛ CE 0 1 2 3) (SE 2 3 1 ⊛ (SE 1 0 3 ⊛ FE 2 0 ⊹ SE 0 1 2 ⊛ FE 3 0) ⊖ SE 1 0 3 ⊛ SE 0 1 2 ⊛ FE 2 3) (coords (a ∷ b ∷ c ∷ d ∷ [])) tt

-- a point and a chord
pub chord : (a b c q : Pt) → C a b c q ≡ S a b q *ℤ dot c a b -ℤ dot q a b *ℤ S a b c
unfolding C S dot
chord a b c q = ring (CE 0 1 2 3) (SE 0 1 3 ⊛ TE 2 0 1 ⊖ TE 3 0 1 ⊛ SE 0 1 2) (coords (a ∷ b ∷ c ∷ q ∷ [])) tt

-- around o: b by a and c
pub height : (o a b c : Pt) → C a b c o ≡ (S o b c *ℤ far o a +ℤ S o a b *ℤ far o c) -ℤ S o a c *ℤ far o b
unfolding C S far
height o a b c = ring (CE 1 2 3 0) ((SE 0 2 3 ⊛ FE 0 1 ⊹ SE 0 1 2 ⊛ FE 0 3) ⊖ SE 0 1 3 ⊛ FE 0 2) (coords (o ∷ a ∷ b ∷ c ∷ [])) tt

-- around o: the side of a, b, c
pub tie : (o a b c : Pt) → (S o b c *ℤ far o a +ℤ S o a b *ℤ far o c) *ℤ S a b c ≡ S o b c *ℤ S o a b *ℤ far a c -ℤ S o a c *ℤ C a b c o
unfolding C S far
tie o a b c =
    ring ((SE 0 2 3 ⊛ FE 0 1 ⊹ SE 0 1 2 ⊛ FE 0 3) ⊛ SE 1 2 3) (SE 0 2 3 ⊛ SE 0 1 2 ⊛ FE 1 3 ⊖ SE 0 1 3 ⊛ CE 1 2 3 0) (coords (o ∷ a ∷ b ∷ c ∷ [])) tt
