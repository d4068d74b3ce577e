-- The identities of planarity.
use mathlib.Core.Path.{◌≡◌}
use mathlib.Core.List.{[], ◌∷◌}
use lib.IntN.{pos, ◌+ℤ◌, ◌-ℤ◌, ◌*ℤ◌, neg_ℤ}
use Rattle.zring.proofs.Ring.{k, ◌⊹◌, ◌⊖◌, ◌⊛◌, ⊝◌, ring}
use Rattle.plane.specs.Plane.{Pt, S, dot}
use Rattle.plane.proofs.Sym.{X, Y, SE, TE, coords}

pub S-first : (a b : Pt) → S a b a ≡ pos 0
unfolding S
S-first a b = ring (SE 0 1 0) (k (pos 0)) (coords (a ∷ b ∷ [])) tt

pub S-last : (a b : Pt) → S a b b ≡ pos 0
unfolding S
S-last a b = ring (SE 0 1 1) (k (pos 0)) (coords (a ∷ b ∷ [])) tt

pub S-twice : (a b : Pt) → S a a b ≡ pos 0
unfolding S
S-twice a b = ring (SE 0 0 1) (k (pos 0)) (coords (a ∷ b ∷ [])) tt

-- o as a mean of a, b and c, seen along the way from o to t
pub mean : (o t a b c : Pt) → S o t a *ℤ S b c o +ℤ S o t b *ℤ S c a o +ℤ S o t c *ℤ S a b o ≡ pos 0
unfolding S
mean o t a b c = ring (SE 0 1 2 ⊛ SE 3 4 0 ⊹ SE 0 1 3 ⊛ SE 4 2 0 ⊹ SE 0 1 4 ⊛ SE 2 3 0) (k (pos 0)) (coords (o ∷ t ∷ a ∷ b ∷ c ∷ [])) tt

-- where the lines a b and c d meet the line o t
pub meet : (o t a b c d : Pt) → S o t a *ℤ S c d b -ℤ S o t b *ℤ S c d a +ℤ S o t c *ℤ S a b d -ℤ S o t d *ℤ S a b c ≡ pos 0
unfolding S
meet o t a b c d =
    ring (SE 0 1 2 ⊛ SE 4 5 3 ⊖ SE 0 1 3 ⊛ SE 4 5 2 ⊹ SE 0 1 4 ⊛ SE 2 3 5 ⊖ SE 0 1 5 ⊛ SE 2 3 4) (k (pos 0)) (coords (o ∷ t ∷ a ∷ b ∷ c ∷ d ∷ [])) tt

-- how far q on the line a b is from both, by its distance from the line o t
pub apart_by : (o t a b q : Pt) → (S o t a -ℤ S o t b) *ℤ (S o t a -ℤ S o t b) *ℤ dot q a b
    ≡ S a b q *ℤ (neg_ℤ ((S o t a -ℤ S o t q) *ℤ ((a.x -ℤ q.x) *ℤ (t.x -ℤ o.x) +ℤ (a.y -ℤ q.y) *ℤ (t.y -ℤ o.y))
    -ℤ (S o t b -ℤ S o t q) *ℤ ((b.x -ℤ q.x) *ℤ (t.x -ℤ o.x) +ℤ (b.y -ℤ q.y) *ℤ (t.y -ℤ o.y))))
    -ℤ (S o t a -ℤ S o t q) *ℤ (S o t q -ℤ S o t b) *ℤ dot a b b
unfolding S dot
apart_by o t a b q =
    ring ((SE 0 1 2 ⊖ SE 0 1 3) ⊛ (SE 0 1 2 ⊖ SE 0 1 3) ⊛ TE 4 2 3)
    (SE 2 3 4 ⊛ (⊝ ((SE 0 1 2 ⊖ SE 0 1 4) ⊛ ((X 2 ⊖ X 4) ⊛ (X 1 ⊖ X 0) ⊹ (Y 2 ⊖ Y 4) ⊛ (Y 1 ⊖ Y 0)) ⊖ (SE 0 1 3 ⊖ SE 0 1 4) ⊛ ((X 3 ⊖ X 4) ⊛ (X 1 ⊖ X 0) ⊹ (Y 3 ⊖ Y 4) ⊛ (Y 1 ⊖ Y 0))))
    ⊖ (SE 0 1 2 ⊖ SE 0 1 4) ⊛ (SE 0 1 4 ⊖ SE 0 1 3) ⊛ TE 2 3 3)
    (coords (o ∷ t ∷ a ∷ b ∷ q ∷ [])) tt

-- the two orders of the last two places
pub S-back : (o a b : Pt) → S o a b ≡ neg_ℤ (S o b a)
unfolding S
S-back o a b = ring (SE 0 1 2) (⊝ SE 0 2 1) (coords (o ∷ a ∷ b ∷ [])) tt

pub dot_swap : (o b c : Pt) → dot o b c ≡ dot o c b
unfolding dot
dot_swap o b c = ring (TE 0 1 2) (TE 0 2 1) (coords (o ∷ b ∷ c ∷ [])) tt
