-- Identities between sides, circles and determinants.
use Rattle.std.specs.Prelude.{◌≡◌, ℤ, pos, ◌+ℤ◌, ◌-ℤ◌, ◌*ℤ◌, neg_ℤ}
use Rattle.plane.specs.Plane.{Pt, S, C}
use Rattle.plane.specs.Vec.{Vec, D, on, lift, inf, mix, less}

-- a side turns with its triangle, changes sign with its line, and a triangle's area is that of its three parts
abbrev pub SideLaws : Type 0
SideLaws =
    ((a b c : Pt) → S a b c ≡ S b c a)
    × ((a b c : Pt) → S a b c ≡ neg_ℤ (S b a c))
    × ((a b c d : Pt) → S a b c ≡ S a b d +ℤ S b c d +ℤ S c a d)

-- a circle changes sign where two neighbours change places, and where the last comes first
abbrev pub CircleLaws : Type 0
CircleLaws =
    ((a b c d : Pt) → C a b c d ≡ neg_ℤ (C b a c d))
    × ((a b c d : Pt) → C a b c d ≡ neg_ℤ (C a c b d))
    × ((a b c d : Pt) → C a b c d ≡ neg_ℤ (C a b d c))
    × ((a b c d : Pt) → C a b c d ≡ neg_ℤ (C b c d a))

-- the determinant is linear in each row
abbrev pub Multilinear : Type 0
Multilinear =
    ((a b c d w : Vec) (m n : ℤ) → D (mix m a n w) b c d ≡ m *ℤ D a b c d +ℤ n *ℤ D w b c d)
    × ((a b c d w : Vec) (m n : ℤ) → D a (mix m b n w) c d ≡ m *ℤ D a b c d +ℤ n *ℤ D a w c d)
    × ((a b c d w : Vec) (m n : ℤ) → D a b (mix m c n w) d ≡ m *ℤ D a b c d +ℤ n *ℤ D a b w d)
    × ((a b c d w : Vec) (m n : ℤ) → D a b c (mix m d n w) ≡ m *ℤ D a b c d +ℤ n *ℤ D a b c w)
    × ((a b c d w : Vec) (n : ℤ) → D a b c (less n d w) ≡ n *ℤ D a b c d -ℤ D a b c w)

-- it changes sign where two neighbouring rows change places, and is 0 where two rows are equal
abbrev pub Alternating : Type 0
Alternating =
    ((a b c d : Vec) → D a b c d ≡ neg_ℤ (D b a c d))
    × ((a b c d : Vec) → D a b c d ≡ neg_ℤ (D a c b d))
    × ((a b c d : Vec) → D a b c d ≡ neg_ℤ (D a b d c))
    × ((a b c : Vec) → D a b c a ≡ pos 0)

-- circles and sides are values of one determinant
abbrev pub Lifted : Type 0
Lifted =
    ((a b c d : Pt) → D (lift a) (lift b) (lift c) (lift d) ≡ C a b c d)
    × ((a b c : Pt) → D (lift a) (lift b) (lift c) inf ≡ neg_ℤ (S a b c))

-- five vectors depend, under each linear form
abbrev pub Five : Type 0
Five = (f a b c d w : Vec) → D b c d w *ℤ on f a -ℤ D a c d w *ℤ on f b +ℤ D a b d w *ℤ on f c -ℤ D a b c w *ℤ on f d +ℤ D a b c d *ℤ on f w ≡ pos 0

-- the circles of five points
abbrev pub FivePoints : Type 0
FivePoints = (a b c d o : Pt) → C b c d o -ℤ C a c d o +ℤ C a b d o -ℤ C a b c o +ℤ C a b c d ≡ pos 0

-- the relation of three terms, a and b in each
abbrev pub Three : Type 0
Three = (a b c d p u : Vec) → D a b c p *ℤ D a b d u ≡ D a b c d *ℤ D a b p u +ℤ D a b c u *ℤ D a b d p

-- q by a, b, i and u, under the form of x, y, z
abbrev pub SectorVectors : Type 0
SectorVectors =
    (x y z a b q i u : Vec)
    → D a b i u *ℤ D x y z q ≡ D q b i u *ℤ D x y z a +ℤ D a q i u *ℤ D x y z b +ℤ D a b q u *ℤ D x y z i -ℤ D a b q i *ℤ D x y z u

-- the lift of q by those of a, b and o and by inf, under each linear form
abbrev pub SectorPoints : Type 0
SectorPoints =
    (f : Vec) (o a b q : Pt)
    → S o a b *ℤ on f (lift q) ≡ S o q b *ℤ on f (lift a) +ℤ S o a q *ℤ on f (lift b) +ℤ C a b q o *ℤ on f inf +ℤ S a b q *ℤ on f (lift o)

-- a flip of the diagonal a b to c d lowers the sum of the circles over o by exactly C a b c d
abbrev pub FlipMeasure : Type 0
FlipMeasure = (a b c d o : Pt) → C a b c o +ℤ C b a d o ≡ C c d b o +ℤ C d c a o +ℤ C a b c d
