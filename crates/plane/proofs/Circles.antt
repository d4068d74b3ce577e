-- Circles: they alternate, and how those of five points depend.
use Rattle.std.proofs.Common.{◌≡◌, [], ◌∷◌, pos, ◌+ℤ◌, ◌-ℤ◌, ◌*ℤ◌, neg_ℤ}
use Rattle.zring.proofs.Ring.{k, ◌⊹◌, ◌⊖◌, ◌⊛◌, ⊝◌, ring}
use Rattle.plane.specs.Plane.{Pt, S, C}
use Rattle.plane.specs.Identities.{FivePoints, FlipMeasure}
use Rattle.plane.proofs.Sym.{SE, CE, coords}

pub C-swap : (a b c d : Pt) → C a b c d ≡ neg_ℤ (C b a c d)
unfolding C
C-swap a b c d = ring (CE 0 1 2 3) (⊝ CE 1 0 2 3) (coords (a ∷ b ∷ c ∷ d ∷ [])) tt

pub C-turn : (a b c d : Pt) → C a b c d ≡ neg_ℤ (C a c b d)
unfolding C
C-turn a b c d = ring (CE 0 1 2 3) (⊝ CE 0 2 1 3) (coords (a ∷ b ∷ c ∷ d ∷ [])) tt

pub C-end : (a b c d : Pt) → C a b c d ≡ neg_ℤ (C a b d c)
unfolding C
C-end a b c d = ring (CE 0 1 2 3) (⊝ CE 0 1 3 2) (coords (a ∷ b ∷ c ∷ d ∷ [])) tt

pub C-cyc : (a b c d : Pt) → C a b c d ≡ neg_ℤ (C b c d a)
unfolding C
C-cyc a b c d = ring (CE 0 1 2 3) (⊝ CE 1 2 3 0) (coords (a ∷ b ∷ c ∷ d ∷ [])) tt

pub C-rot : (a b c d : Pt) → C a b c d ≡ C b c a d
unfolding C
C-rot a b c d = ring (CE 0 1 2 3) (CE 1 2 0 3) (coords (a ∷ b ∷ c ∷ d ∷ [])) tt

pub C-on : (a b c : Pt) → C a b c b ≡ pos 0
unfolding C
C-on a b c = ring (CE 0 1 2 1) (k (pos 0)) (coords (a ∷ b ∷ c ∷ [])) tt

-- from the other side of the diagonal
pub flip_circle : (a b c d : Pt) → C a b c d ≡ C b a d c
unfolding C
flip_circle a b c d = ring (CE 0 1 2 3) (CE 1 0 3 2) (coords (a ∷ b ∷ c ∷ d ∷ [])) tt

pub five_points : FivePoints
unfolding C
five_points a b c d o = ring (CE 1 2 3 4 ⊖ CE 0 2 3 4 ⊹ CE 0 1 3 4 ⊖ CE 0 1 2 4 ⊹ CE 0 1 2 3) (k (pos 0)) (coords (a ∷ b ∷ c ∷ d ∷ o ∷ [])) tt

-- a flip lowers the volume over o by C a b c d
pub volume : FlipMeasure
unfolding C
volume a b c d o = ring (CE 0 1 2 4 ⊹ CE 1 0 3 4) (CE 2 3 1 4 ⊹ CE 3 2 0 4 ⊹ CE 0 1 2 3) (coords (a ∷ b ∷ c ∷ d ∷ o ∷ [])) tt

-- the circles through a and b
pub pencil : (a b c d q : Pt) → C a b c q *ℤ S a b d -ℤ C a b d q *ℤ S a b c ≡ C a b c d *ℤ S a b q
unfolding S C
pencil a b c d q =
    ring (CE 0 1 2 4 ⊛ SE 0 1 3 ⊖ CE 0 1 3 4 ⊛ SE 0 1 2) (CE 0 1 2 3 ⊛ SE 0 1 4) (coords (a ∷ b ∷ c ∷ d ∷ q ∷ [])) tt

-- around o: a, b, c and n, which comes after b
pub after : (o a b c n : Pt) → C a b c o *ℤ S o b n ≡ S o b c *ℤ C b n a o +ℤ S o a b *ℤ C b n c o
unfolding C S
after o a b c n = ring (CE 1 2 3 0 ⊛ SE 0 2 4) (SE 0 2 3 ⊛ CE 2 4 1 0 ⊹ SE 0 1 2 ⊛ CE 2 4 3 0) (coords (o ∷ a ∷ b ∷ c ∷ n ∷ [])) tt
