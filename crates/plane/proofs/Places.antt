-- Sides and circles as determinants.
use Rattle.std.proofs.Common.{◌≡◌, [], ◌∷◌, pos, neg_ℤ}
use Rattle.zring.proofs.Ring.{v, k, ◌⊹◌, ◌⊛◌, ⊝◌, ring}
use Rattle.plane.specs.Plane.{Pt, S, C}
use Rattle.plane.specs.Vec.{Vec, D, on, lift, inf}
use Rattle.plane.specs.Identities.{SectorPoints}
use Rattle.plane.proofs.Sym.{SE, CE, coords, Four, V, PE, inf_e, DE, on_e, entries}

pub circle_is : (a b c d : Pt) → D (lift a) (lift b) (lift c) (lift d) ≡ C a b c d
unfolding D C lift
circle_is a b c d = ring (DE (PE 0) (PE 1) (PE 2) (PE 3)) (CE 0 1 2 3) (coords (a ∷ b ∷ c ∷ d ∷ [])) tt

pub side_is : (a b c : Pt) → D (lift a) (lift b) (lift c) inf ≡ neg_ℤ (S a b c)
unfolding D S lift inf
side_is a b c = ring (DE (PE 0) (PE 1) (PE 2) inf_e) (⊝ SE 0 1 2) (coords (a ∷ b ∷ c ∷ [])) tt

pub cross_is : (a b o : Pt) → D (lift a) (lift b) inf (lift o) ≡ S o a b
unfolding D S lift inf
cross_is a b o = ring (DE (PE 0) (PE 1) inf_e (PE 2)) (SE 2 0 1) (coords (a ∷ b ∷ o ∷ [])) tt

-- twice inf
pub flat_is : (a b : Vec) → D a b inf inf ≡ pos 0
unfolding D inf
flat_is a b = ring (DE (V 0) (V 1) inf_e inf_e) (k (pos 0)) (entries (a ∷ b ∷ [])) tt

abbrev form : Four
form = record { e0 = v 8; e1 = v 9; e2 = v 10; e3 = v 11 }

-- around o: the lift of q
pub sector_form : SectorPoints
unfolding C S on lift inf
sector_form f o a b q =
    ring (SE 0 1 2 ⊛ on_e form (PE 3)) (SE 0 3 2 ⊛ on_e form (PE 1) ⊹ SE 0 1 3 ⊛ on_e form (PE 2) ⊹ CE 1 2 3 0 ⊛ on_e form inf_e ⊹ SE 1 2 3 ⊛ on_e form (PE 0))
    (o.x ∷ o.y ∷ a.x ∷ a.y ∷ b.x ∷ b.y ∷ q.x ∷ q.y ∷ f.c0 ∷ f.c1 ∷ f.c2 ∷ f.c3 ∷ []) tt
