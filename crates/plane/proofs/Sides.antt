-- Sides: they turn, change sign and add.
use Rattle.std.proofs.Common.{◌≡◌, [], ◌∷◌, ◌+ℤ◌, ◌-ℤ◌, neg_ℤ}
use Rattle.zring.proofs.Ring.{◌⊹◌, ◌⊖◌, ⊝◌, ring}
use Rattle.plane.specs.Plane.{Pt, S}
use Rattle.plane.proofs.Sym.{SE, coords}

pub S-cyc : (a b c : Pt) → S a b c ≡ S b c a
unfolding S
S-cyc a b c = ring (SE 0 1 2) (SE 1 2 0) (coords (a ∷ b ∷ c ∷ [])) tt

pub S-swap : (a b c : Pt) → S a b c ≡ neg_ℤ (S b a c)
unfolding S
S-swap a b c = ring (SE 0 1 2) (⊝ SE 1 0 2) (coords (a ∷ b ∷ c ∷ [])) tt

pub S-split : (a b c d : Pt) → S a b c ≡ S a b d +ℤ S b c d +ℤ S c a d
unfolding S
S-split a b c d = ring (SE 0 1 2) (SE 0 1 3 ⊹ SE 1 2 3 ⊹ SE 2 0 3) (coords (a ∷ b ∷ c ∷ d ∷ [])) tt

-- around o: a, b and q
pub area : (o a b q : Pt) → S a b q ≡ S o a b -ℤ S o q b -ℤ S o a q
unfolding S
area o a b q = ring (SE 1 2 3) (SE 0 1 2 ⊖ SE 0 3 2 ⊖ SE 0 1 3) (coords (o ∷ a ∷ b ∷ q ∷ [])) tt

-- the two faces before and after a flip
pub flip_areas : (a b c d : Pt) → S c d b +ℤ S d c a ≡ S a b c +ℤ S b a d
unfolding S
flip_areas a b c d = ring (SE 2 3 1 ⊹ SE 3 2 0) (SE 0 1 2 ⊹ SE 1 0 3) (coords (a ∷ b ∷ c ∷ d ∷ [])) tt
