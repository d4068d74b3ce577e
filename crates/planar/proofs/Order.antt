-- Three directions in order: the laws of a cyclic order.
use mathlib.Core.Path.{◌≡◌}
use mathlib.Core.List.{[], ◌∷◌}
use mathlib.Core.Logic.{◌⊎◌, inl, inr}
use native.Mathlib.Omega.{arith}
use lib.IntN.{ℤ, pos, ◌+ℤ◌, ◌*ℤ◌}
use lib.Signed.{◌≤ℤ◌, ◌<ℤ◌}
use borrow.Author.Differences.{ints}
use Rattle.zring.proofs.Ring.{◌⊹◌, ◌⊛◌, ring}
use Rattle.zring.proofs.Signs.{mul->>, mul-≤≥, mul-≥≤, cancel->, weaken, neg_clash, pos_or}
use Rattle.plane.specs.Plane.{Pt, S}
use Rattle.plane.proofs.Sym.{SE, coords}
use Rattle.planar.specs.Order.{Two, Ccw3}
use Rattle.planar.proofs.Terms.{S-back}

-- not positive, or positive
pub sign : (z : ℤ) → (z ≤ℤ pos 0) ⊎ (pos 0 <ℤ z)
sign z = elim (pos_or z) [ inl p ↦ inr p | inr p ↦ inl p ]

-- four directions
pub four : (o a b c d : Pt) → S o a b *ℤ S o c d +ℤ S o c a *ℤ S o b d ≡ S o d a *ℤ S o b c
unfolding S
four o a b c d = ring (SE 0 1 2 ⊛ SE 0 3 4 ⊹ SE 0 3 1 ⊛ SE 0 2 4) (SE 0 4 1 ⊛ SE 0 2 3) (coords (o ∷ a ∷ b ∷ c ∷ d ∷ [])) tt

four_2 : (o a b c d : Pt) → S o d a *ℤ S o b c +ℤ S o c a *ℤ S o d b ≡ S o a b *ℤ S o c d
unfolding S
four_2 o a b c d = ring (SE 0 4 1 ⊛ SE 0 2 3 ⊹ SE 0 3 1 ⊛ SE 0 4 2) (SE 0 1 2 ⊛ SE 0 3 4) (coords (o ∷ a ∷ b ∷ c ∷ d ∷ [])) tt

four_3 : (o a b c d : Pt) → S o d a *ℤ S o b c +ℤ S o a c *ℤ S o b d ≡ S o a b *ℤ S o c d
unfolding S
four_3 o a b c d = ring (SE 0 4 1 ⊛ SE 0 2 3 ⊹ SE 0 1 3 ⊛ SE 0 2 4) (SE 0 1 2 ⊛ SE 0 3 4) (coords (o ∷ a ∷ b ∷ c ∷ d ∷ [])) tt

four_4 : (o a b c d : Pt) → S o a b *ℤ S o c d +ℤ S o a c *ℤ S o d b ≡ S o d a *ℤ S o b c
unfolding S
four_4 o a b c d = ring (SE 0 1 2 ⊛ SE 0 3 4 ⊹ SE 0 1 3 ⊛ SE 0 4 2) (SE 0 4 1 ⊛ SE 0 2 3) (coords (o ∷ a ∷ b ∷ c ∷ d ∷ [])) tt

-- p q + c x = r s
push : (p q c x r s : ℤ) → p *ℤ q +ℤ c *ℤ x ≡ r *ℤ s → pos 0 <ℤ c → (p *ℤ q) ≤ℤ pos 0 → pos 0 <ℤ r → pos 0 <ℤ s → pos 0 <ℤ x
push p q c x r s e hc hp hr hs = cancel-> c x hc (go (p *ℤ q) (c *ℤ x) (r *ℤ s) e hp (mul->> r s hr hs))
  where
    go : (a b d : ℤ) → a +ℤ b ≡ d → a ≤ℤ pos 0 → pos 0 <ℤ d → pos 0 <ℤ b
    go a b d e h l = omega (arith, ints)

pub ccw3_turn : (o a b c : Pt) → Ccw3 o a b c → Ccw3 o b c a
ccw3_turn o a b c h = record { most = go h.most }
  where
    go : Two (S o a b) (S o b c) (S o c a) → Two (S o b c) (S o c a) (S o a b)
    go (inl (p, q)) = inr (inr (p, q))
    go (inr (inl (p, q))) = inl (p, q)
    go (inr (inr (p, q))) = inr (inl (p, q))

module _ (o a b c d : Pt) where
  both_ways : pos 0 <ℤ S o c a → pos 0 <ℤ S o a c → ⊥
  both_ways p q = neg_clash (S o c a) (S o a c) (S-back o c a) p q

  law : Two (S o a b) (S o b c) (S o c a) → Two (S o a c) (S o c d) (S o d a) → Two (S o a b) (S o b d) (S o d a) × Two (S o b c) (S o c d) (S o d b)
  law (inl (ab, bc)) (inl (ac, cd)) = (go (sign (S o d a)), inl (bc, cd))
    where
      go : (S o d a ≤ℤ pos 0) ⊎ (pos 0 <ℤ S o d a) → Two (S o a b) (S o b d) (S o d a)
      go (inl h) = inl (ab, push (S o d a) (S o b c) (S o a c) (S o b d) (S o a b) (S o c d) (four_3 o a b c d) ac (mul-≤≥ (S o d a) (S o b c) h (weaken (pos 0) (S o b c) bc)) ab cd)
      go (inr da) = inr (inr (da, ab))
  law (inl (ab, bc)) (inr (inl (cd, da))) = (inr (inr (da, ab)), inl (bc, cd))
  law (inl (ab, bc)) (inr (inr (da, ac))) = (inr (inr (da, ab)), go (sign (S o c d)))
    where
      go : (S o c d ≤ℤ pos 0) ⊎ (pos 0 <ℤ S o c d) → Two (S o b c) (S o c d) (S o d b)
      go (inl h) = inr (inr (push (S o a b) (S o c d) (S o a c) (S o d b) (S o d a) (S o b c) (four_4 o a b c d) ac (mul-≥≤ (S o a b) (S o c d) (weaken (pos 0) (S o a b) ab) h) da bc, bc))
      go (inr cd) = inl (bc, cd)
  law (inr (inl (bc, ca))) (inl (ac, cd)) = absurd (both_ways ca ac)
  law (inr (inl (bc, ca))) (inr (inl (cd, da))) = (go (sign (S o a b)), inl (bc, cd))
    where
      go : (S o a b ≤ℤ pos 0) ⊎ (pos 0 <ℤ S o a b) → Two (S o a b) (S o b d) (S o d a)
      go (inl h) = inr (inl (push (S o a b) (S o c d) (S o c a) (S o b d) (S o d a) (S o b c) (four o a b c d) ca (mul-≤≥ (S o a b) (S o c d) h (weaken (pos 0) (S o c d) cd)) da bc, da))
      go (inr ab) = inr (inr (da, ab))
  law (inr (inl (bc, ca))) (inr (inr (da, ac))) = absurd (both_ways ca ac)
  law (inr (inr (ca, ab))) (inl (ac, cd)) = absurd (both_ways ca ac)
  law (inr (inr (ca, ab))) (inr (inl (cd, da))) = (inr (inr (da, ab)), go (sign (S o b c)))
    where
      go : (S o b c ≤ℤ pos 0) ⊎ (pos 0 <ℤ S o b c) → Two (S o b c) (S o c d) (S o d b)
      go (inl h) = inr (inl (cd, push (S o d a) (S o b c) (S o c a) (S o d b) (S o a b) (S o c d) (four_2 o a b c d) ca (mul-≥≤ (S o d a) (S o b c) (weaken (pos 0) (S o d a) da) h) ab cd))
      go (inr bc) = inl (bc, cd)
  law (inr (inr (ca, ab))) (inr (inr (da, ac))) = absurd (both_ways ca ac)

  -- a, b, c and a, c, d: then a, b, d
  pub ccw3_skip : Ccw3 o a b c → Ccw3 o a c d → Ccw3 o a b d
  ccw3_skip h l = record { most = (law h.most l.most).0 }

  -- and b, c, d
  pub ccw3_rest : Ccw3 o a b c → Ccw3 o a c d → Ccw3 o b c d
  ccw3_rest h l = record { most = (law h.most l.most).1 }
