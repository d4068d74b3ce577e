-- The determinant: it alternates, it is linear, and five vectors depend.
use Rattle.std.proofs.Common.{◌≡◌, ℕ, [], ◌∷◌, ℤ, pos, ◌+ℤ◌, ◌-ℤ◌, ◌*ℤ◌, neg_ℤ}
use Rattle.zring.proofs.Ring.{E, v, k, ◌⊹◌, ◌⊖◌, ◌⊛◌, ⊝◌, ring}
use Rattle.plane.specs.Vec.{Vec, D, on, mix, less}
use Rattle.plane.specs.Identities.{Five, Three, SectorVectors}
use Rattle.plane.proofs.Sym.{V, DE, on_e, entries, entries_and, Four}

abbrev D4 : ℕ → ℕ → ℕ → ℕ → E
D4 a b c d = DE (V a) (V b) (V c) (V d)

pub D-swap12 : (a b c d : Vec) → D a b c d ≡ neg_ℤ (D b a c d)
unfolding D
D-swap12 a b c d = ring (D4 0 1 2 3) (⊝ D4 1 0 2 3) (entries (a ∷ b ∷ c ∷ d ∷ [])) tt

pub D-swap23 : (a b c d : Vec) → D a b c d ≡ neg_ℤ (D a c b d)
unfolding D
D-swap23 a b c d = ring (D4 0 1 2 3) (⊝ D4 0 2 1 3) (entries (a ∷ b ∷ c ∷ d ∷ [])) tt

pub D-swap34 : (a b c d : Vec) → D a b c d ≡ neg_ℤ (D a b d c)
unfolding D
D-swap34 a b c d = ring (D4 0 1 2 3) (⊝ D4 0 1 3 2) (entries (a ∷ b ∷ c ∷ d ∷ [])) tt

pub D-rot : (a b c d : Vec) → D a b c d ≡ D b c a d
unfolding D
D-rot a b c d = ring (D4 0 1 2 3) (D4 1 2 0 3) (entries (a ∷ b ∷ c ∷ d ∷ [])) tt

pub D-cyc : (a b c d : Vec) → D a b c d ≡ neg_ℤ (D b c d a)
unfolding D
D-cyc a b c d = ring (D4 0 1 2 3) (⊝ D4 1 2 3 0) (entries (a ∷ b ∷ c ∷ d ∷ [])) tt

pub D-same : (a b c : Vec) → D a b c a ≡ pos 0
unfolding D
D-same a b c = ring (D4 0 1 2 0) (k (pos 0)) (entries (a ∷ b ∷ c ∷ [])) tt

-- five vectors, under a linear form
pub five : Five
unfolding D on
five f a b c d w =
    ring (D4 2 3 4 5 ⊛ on_e (V 0) (V 1) ⊖ D4 1 3 4 5 ⊛ on_e (V 0) (V 2) ⊹ D4 1 2 4 5 ⊛ on_e (V 0) (V 3) ⊖ D4 1 2 3 5 ⊛ on_e (V 0) (V 4) ⊹ D4 1 2 3 4 ⊛ on_e (V 0) (V 5)) (k (pos 0))
    (entries (f ∷ a ∷ b ∷ c ∷ d ∷ w ∷ [])) tt

-- a and b stand in each
pub three : Three
unfolding D
three a b c d p u =
    ring (D4 0 1 2 4 ⊛ D4 0 1 3 5) (D4 0 1 2 3 ⊛ D4 0 1 4 5 ⊹ D4 0 1 2 5 ⊛ D4 0 1 3 4) (entries (a ∷ b ∷ c ∷ d ∷ p ∷ u ∷ [])) tt

-- the same from the face a b c over its side a b to the face b a d
pub across : (a b c d p u : Vec) → D a b c p *ℤ D b a d u ≡ D a b c d *ℤ D b a p u +ℤ D a b c u *ℤ D b a d p
unfolding D
across a b c d p u =
    ring (D4 0 1 2 4 ⊛ D4 1 0 3 5) (D4 0 1 2 3 ⊛ D4 1 0 4 5 ⊹ D4 0 1 2 5 ⊛ D4 1 0 3 4) (entries (a ∷ b ∷ c ∷ d ∷ p ∷ u ∷ [])) tt

-- q by a, b, i and u, under the form of the face x y z
pub sector : SectorVectors
unfolding D
sector x y z a b q i u =
    ring (D4 3 4 6 7 ⊛ D4 0 1 2 5) (D4 5 4 6 7 ⊛ D4 0 1 2 3 ⊹ D4 3 5 6 7 ⊛ D4 0 1 2 4 ⊹ D4 3 4 5 7 ⊛ D4 0 1 2 6 ⊖ D4 3 4 5 6 ⊛ D4 0 1 2 7)
    (entries (x ∷ y ∷ z ∷ a ∷ b ∷ q ∷ i ∷ u ∷ [])) tt

-- m times vector i and n times vector 4
abbrev mix_e : ℕ → Four
mix_e i =
    record {
      e0 = v 20 ⊛ (V i).e0 ⊹ v 21 ⊛ v 16;
      e1 = v 20 ⊛ (V i).e1 ⊹ v 21 ⊛ v 17;
      e2 = v 20 ⊛ (V i).e2 ⊹ v 21 ⊛ v 18;
      e3 = v 20 ⊛ (V i).e3 ⊹ v 21 ⊛ v 19;
    }

pub D-row1 : (a b c d w : Vec) (m n : ℤ) → D (mix m a n w) b c d ≡ m *ℤ D a b c d +ℤ n *ℤ D w b c d
unfolding D mix
D-row1 a b c d w m n = ring (DE (mix_e 0) (V 1) (V 2) (V 3)) (v 20 ⊛ D4 0 1 2 3 ⊹ v 21 ⊛ D4 4 1 2 3) (entries_and (a ∷ b ∷ c ∷ d ∷ w ∷ []) (m ∷ n ∷ [])) tt

pub D-row2 : (a b c d w : Vec) (m n : ℤ) → D a (mix m b n w) c d ≡ m *ℤ D a b c d +ℤ n *ℤ D a w c d
unfolding D mix
D-row2 a b c d w m n = ring (DE (V 0) (mix_e 1) (V 2) (V 3)) (v 20 ⊛ D4 0 1 2 3 ⊹ v 21 ⊛ D4 0 4 2 3) (entries_and (a ∷ b ∷ c ∷ d ∷ w ∷ []) (m ∷ n ∷ [])) tt

pub D-row3 : (a b c d w : Vec) (m n : ℤ) → D a b (mix m c n w) d ≡ m *ℤ D a b c d +ℤ n *ℤ D a b w d
unfolding D mix
D-row3 a b c d w m n = ring (DE (V 0) (V 1) (mix_e 2) (V 3)) (v 20 ⊛ D4 0 1 2 3 ⊹ v 21 ⊛ D4 0 1 4 3) (entries_and (a ∷ b ∷ c ∷ d ∷ w ∷ []) (m ∷ n ∷ [])) tt

pub D-row4 : (a b c d w : Vec) (m n : ℤ) → D a b c (mix m d n w) ≡ m *ℤ D a b c d +ℤ n *ℤ D a b c w
unfolding D mix
D-row4 a b c d w m n = ring (DE (V 0) (V 1) (V 2) (mix_e 3)) (v 20 ⊛ D4 0 1 2 3 ⊹ v 21 ⊛ D4 0 1 2 4) (entries_and (a ∷ b ∷ c ∷ d ∷ w ∷ []) (m ∷ n ∷ [])) tt

-- n u - i
abbrev nu : Four
nu = record { e0 = v 20 ⊛ v 12 ⊖ v 16; e1 = v 20 ⊛ v 13 ⊖ v 17; e2 = v 20 ⊛ v 14 ⊖ v 18; e3 = v 20 ⊛ v 15 ⊖ v 19 }

-- the last row n u - i
pub D-less : (a b c u i : Vec) (n : ℤ) → D a b c (less n u i) ≡ n *ℤ D a b c u -ℤ D a b c i
unfolding D less
D-less a b c u i n =
    ring (DE (V 0) (V 1) (V 2) nu) (v 20 ⊛ D4 0 1 2 3 ⊖ D4 0 1 2 4) (entries_and (a ∷ b ∷ c ∷ u ∷ i ∷ []) (n ∷ [])) tt

-- the diagonals of a flip
pub D-flip : (a b c d : Vec) → D c d b a ≡ neg_ℤ (D a b c d)
unfolding D
D-flip a b c d = ring (D4 2 3 1 0) (⊝ D4 0 1 2 3) (entries (a ∷ b ∷ c ∷ d ∷ [])) tt

pub D-flip' : (a b c d : Vec) → D d c a b ≡ neg_ℤ (D a b c d)
unfolding D
D-flip' a b c d = ring (D4 3 2 0 1) (⊝ D4 0 1 2 3) (entries (a ∷ b ∷ c ∷ d ∷ [])) tt
