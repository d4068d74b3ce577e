-- A triangle that has o in it, or on a side of it, goes around o.
use mathlib.Core.Path.{◌≡◌, sym, ◌∙◌, ap, subst}
use mathlib.Core.List.{[], ◌∷◌}
use mathlib.Core.Logic.{◌⊎◌, inl, inr}
use native.Mathlib.Omega.{arith}
use lib.IntN.{ℤ, pos, ◌+ℤ◌, ◌-ℤ◌, ◌*ℤ◌, neg_ℤ, *ℤ_comm, *ℤ-zero, zero-*ℤ}
use lib.Signed.{◌≤ℤ◌, ◌<ℤ◌}
use borrow.Author.Differences.{ints}
use Rattle.zring.proofs.Ring.{◌⊹◌, ◌⊖◌, ◌⊛◌, ring}
use Rattle.zring.proofs.Signs.{pos_or, weaken, both_zero, mul->>, mul-≤≥, cancel-≥, cancel->, zero-≥}
use Rattle.plane.specs.Plane.{Pt, S}
use Rattle.plane.proofs.Sym.{SE, coords}
use Rattle.plane.proofs.Sides.{S-cyc, S-split}
use Rattle.planar.proofs.Terms.{mean, S-back}
use Rattle.planar.proofs.Turning.{no_ray}
use Rattle.planar.proofs.Count.{count, count_one, count-≥}

-- one of three counts is 1, and the others are not below 0
module _ (x y z : ℤ) (hx : pos 0 ≤ℤ x) (hy : pos 0 ≤ℤ y) (hz : pos 0 ≤ℤ z) where
  by_first : x ≡ pos 1 → pos 1 ≤ℤ (x +ℤ y +ℤ z)
  by_first e = omega (arith, ints)

  by_second : y ≡ pos 1 → pos 1 ≤ℤ (x +ℤ y +ℤ z)
  by_second e = omega (arith, ints)

  by_third : z ≡ pos 1 → pos 1 ≤ℤ (x +ℤ y +ℤ z)
  by_third e = omega (arith, ints)

-- o strictly inside
pub count_in : (o t a b c : Pt) → pos 0 <ℤ S a b o → pos 0 <ℤ S b c o → pos 0 <ℤ S c a o → ¬ (t ≡ o) → pos 1 ≤ℤ (count o t a b +ℤ count o t b c +ℤ count o t c a)
count_in o t a b c hc ha hb away = go (pos_or (S o t a)) (pos_or (S o t b)) (pos_or (S o t c))
  where
    cab : pos 0 ≤ℤ count o t a b
    cab = count-≥ o t a b (weaken (pos 0) (S a b o) hc)

    cbc : pos 0 ≤ℤ count o t b c
    cbc = count-≥ o t b c (weaken (pos 0) (S b c o) ha)

    cca : pos 0 ≤ℤ count o t c a
    cca = count-≥ o t c a (weaken (pos 0) (S c a o) hb)

    first : S o t a ≤ℤ pos 0 → pos 0 <ℤ S o t b → pos 1 ≤ℤ (count o t a b +ℤ count o t b c +ℤ count o t c a)
    first l r = by_first (count o t a b) (count o t b c) (count o t c a) cab cbc cca (count_one o t a b l r hc)

    second : S o t b ≤ℤ pos 0 → pos 0 <ℤ S o t c → pos 1 ≤ℤ (count o t a b +ℤ count o t b c +ℤ count o t c a)
    second l r = by_second (count o t a b) (count o t b c) (count o t c a) cab cbc cca (count_one o t b c l r ha)

    third : S o t c ≤ℤ pos 0 → pos 0 <ℤ S o t a → pos 1 ≤ℤ (count o t a b +ℤ count o t b c +ℤ count o t c a)
    third l r = by_third (count o t a b) (count o t b c) (count o t c a) cab cbc cca (count_one o t c a l r hb)

    over : (x y z : ℤ) → x +ℤ y +ℤ z ≡ pos 0 → pos 0 <ℤ x → pos 0 <ℤ y → pos 0 <ℤ z → ⊥
    over x y z e h l r = omega (arith, ints)

    under : (x y z : ℤ) → x +ℤ y +ℤ z ≡ pos 0 → x ≤ℤ pos 0 → y ≤ℤ pos 0 → z ≤ℤ pos 0 → (pos 0 ≤ℤ x) × (pos 0 ≤ℤ y)
    under x y z e h l r = (omega (arith, ints), omega (arith, ints))

    flat : S o t a ≤ℤ pos 0 → S o t b ≤ℤ pos 0 → S o t c ≤ℤ pos 0 → ⊥
    flat la lb lc =
        let z = under (S o t a *ℤ S b c o) (S o t b *ℤ S c a o) (S o t c *ℤ S a b o) (mean o t a b c)
        (mul-≤≥ (S o t a) (S b c o) la (weaken (pos 0) (S b c o) ha)) (mul-≤≥ (S o t b) (S c a o) lb (weaken (pos 0) (S c a o) hb)) (mul-≤≥ (S o t c) (S a b o) lc (weaken (pos 0) (S a b o) hc)) in
        away (no_ray o t a b (subst (λ z. pos 0 <ℤ z) (sym (S-cyc o a b)) hc)
        (both_zero (S o t a) (cancel-≥ (S b c o) (S o t a) ha (subst (λ y. pos 0 ≤ℤ y) (*ℤ_comm (S o t a) (S b c o)) z.0)) la)
        (both_zero (S o t b) (cancel-≥ (S c a o) (S o t b) hb (subst (λ y. pos 0 ≤ℤ y) (*ℤ_comm (S o t b) (S c a o)) z.1)) lb))

    go : (pos 0 <ℤ S o t a) ⊎ (S o t a ≤ℤ pos 0) → (pos 0 <ℤ S o t b) ⊎ (S o t b ≤ℤ pos 0) → (pos 0 <ℤ S o t c) ⊎ (S o t c ≤ℤ pos 0)
        → pos 1 ≤ℤ (count o t a b +ℤ count o t b c +ℤ count o t c a)
    go (inl pa) (inl pb) (inl pc) =
        absurd (over (S o t a *ℤ S b c o) (S o t b *ℤ S c a o) (S o t c *ℤ S a b o) (mean o t a b c)
        (mul->> (S o t a) (S b c o) pa ha) (mul->> (S o t b) (S c a o) pb hb) (mul->> (S o t c) (S a b o) pc hc))
    go (inl pa) (inl pb) (inr pc) = third pc pa
    go (inl pa) (inr pb) (inl pc) = second pb pc
    go (inl pa) (inr pb) (inr pc) = third pc pa
    go (inr pa) (inl pb) pc = first pa pb
    go (inr pa) (inr pb) (inl pc) = second pb pc
    go (inr pa) (inr pb) (inr pc) = absurd (flat pa pb pc)

-- o strictly between a and b, and t on the side of c
pub count_side : (o t a b c : Pt) → S a b o ≡ pos 0 → pos 0 <ℤ S b c o → pos 0 <ℤ S c a o → pos 0 <ℤ S a b t → pos 1 ≤ℤ (count o t a b +ℤ count o t b c +ℤ count o t c a)
count_side o t a b c e ha hb h = go (pos_or (S o t a)) (pos_or (S o t b)) (pos_or (S o t c))
  where
    cab : pos 0 ≤ℤ count o t a b
    cab = count-≥ o t a b (zero-≥ (S a b o) e)

    cbc : pos 0 ≤ℤ count o t b c
    cbc = count-≥ o t b c (weaken (pos 0) (S b c o) ha)

    cca : pos 0 ≤ℤ count o t c a
    cca = count-≥ o t c a (weaken (pos 0) (S c a o) hb)

    -- a and b on the two sides of the ray
    mixed : S o t a *ℤ S b c o +ℤ S o t b *ℤ S c a o ≡ pos 0
    mixed = drop (S o t a *ℤ S b c o) (S o t b *ℤ S c a o) (S o t c *ℤ S a b o) (mean o t a b c) (ap (λ z. S o t c *ℤ z) e ∙ *ℤ-zero (S o t c))
      where
        drop : (x y z : ℤ) → x +ℤ y +ℤ z ≡ pos 0 → z ≡ pos 0 → x +ℤ y ≡ pos 0
        drop x y z e f = omega (arith, ints)

    apart : S o t b <ℤ S o t a
    apart = less (S a b t) (S a b o) (S b t o) (S t a o) (S o t a) (S o t b) (S-split a b t o) e (S-cyc b t o ∙ S-cyc t o b ∙ S-back o b t) (sym (S-cyc o t a)) h
      where
        less : (x y z w p q : ℤ) → x ≡ y +ℤ z +ℤ w → y ≡ pos 0 → z ≡ neg_ℤ q → w ≡ p → pos 0 <ℤ x → q <ℤ p
        less x y z w p q a b c d h = omega (arith, ints)

    second : S o t b ≤ℤ pos 0 → pos 0 <ℤ S o t c → pos 1 ≤ℤ (count o t a b +ℤ count o t b c +ℤ count o t c a)
    second l r = by_second (count o t a b) (count o t b c) (count o t c a) cab cbc cca (count_one o t b c l r ha)

    third : S o t c ≤ℤ pos 0 → pos 0 <ℤ S o t a → pos 1 ≤ℤ (count o t a b +ℤ count o t b c +ℤ count o t c a)
    third l r = by_third (count o t a b) (count o t b c) (count o t c a) cab cbc cca (count_one o t c a l r hb)

    over : (x y : ℤ) → x +ℤ y ≡ pos 0 → pos 0 <ℤ x → pos 0 <ℤ y → ⊥
    over x y e h l = omega (arith, ints)

    rest : (x y : ℤ) → x +ℤ y ≡ pos 0 → x ≤ℤ pos 0 → pos 0 ≤ℤ y
    rest x y e h = omega (arith, ints)

    clash : (p q : ℤ) → q <ℤ p → p ≤ℤ pos 0 → pos 0 ≤ℤ q → ⊥
    clash p q h l r = omega (arith, ints)

    go : (pos 0 <ℤ S o t a) ⊎ (S o t a ≤ℤ pos 0) → (pos 0 <ℤ S o t b) ⊎ (S o t b ≤ℤ pos 0) → (pos 0 <ℤ S o t c) ⊎ (S o t c ≤ℤ pos 0)
        → pos 1 ≤ℤ (count o t a b +ℤ count o t b c +ℤ count o t c a)
    go (inl pa) (inl pb) pc = absurd (over (S o t a *ℤ S b c o) (S o t b *ℤ S c a o) mixed (mul->> (S o t a) (S b c o) pa ha) (mul->> (S o t b) (S c a o) pb hb))
    go (inl pa) (inr pb) (inl pc) = second pb pc
    go (inl pa) (inr pb) (inr pc) = third pc pa
    go (inr l) pb pc =
        absurd (clash (S o t a) (S o t b) apart l
        (cancel-≥ (S c a o) (S o t b) hb
        (subst (λ z. pos 0 ≤ℤ z) (*ℤ_comm (S o t b) (S c a o)) (rest (S o t a *ℤ S b c o) (S o t b *ℤ S c a o) mixed (mul-≤≥ (S o t a) (S b c o) l (weaken (pos 0) (S b c o) ha))))))

-- ---- o on the side a b of two triangles
beside_b : (a b c d o : Pt) → S a b c *ℤ S d b o ≡ S b a d *ℤ S b c o -ℤ S a b o *ℤ S b d c
unfolding S
beside_b a b c d o = ring (SE 0 1 2 ⊛ SE 3 1 4) (SE 1 0 3 ⊛ SE 1 2 4 ⊖ SE 0 1 4 ⊛ SE 1 3 2) (coords (a ∷ b ∷ c ∷ d ∷ o ∷ [])) tt

beside_a : (a b c d o : Pt) → S a b c *ℤ S a d o ≡ S b a d *ℤ S c a o +ℤ S a b o *ℤ S a d c
unfolding S
beside_a a b c d o = ring (SE 0 1 2 ⊛ SE 0 3 4) (SE 1 0 3 ⊛ SE 2 0 4 ⊹ SE 0 1 4 ⊛ SE 0 3 2) (coords (a ∷ b ∷ c ∷ d ∷ o ∷ [])) tt

-- strictly between its ends for one, so for the other
pub other_side : (a b c d o : Pt) → pos 0 <ℤ S a b c → pos 0 <ℤ S b a d → S a b o ≡ pos 0 → pos 0 <ℤ S b c o → pos 0 <ℤ S c a o → (pos 0 <ℤ S a d o) × (pos 0 <ℤ S d b o)
other_side a b c d o hc hd e ha hb = (
  cancel-> (S a b c) (S a d o) hc
      (plus (S a b c *ℤ S a d o) (S b a d *ℤ S c a o) (S a b o *ℤ S a d c) (beside_a a b c d o) (none (S a d c)) (mul->> (S b a d) (S c a o) hd hb)),
  cancel-> (S a b c) (S d b o) hc
      (minus (S a b c *ℤ S d b o) (S b a d *ℤ S b c o) (S a b o *ℤ S b d c) (beside_b a b c d o) (none (S b d c)) (mul->> (S b a d) (S b c o) hd ha)),
)
  where
    none : (z : ℤ) → S a b o *ℤ z ≡ pos 0
    none z = ap (λ y. y *ℤ z) e ∙ zero-*ℤ z

    plus : (x y z : ℤ) → x ≡ y +ℤ z → z ≡ pos 0 → pos 0 <ℤ y → pos 0 <ℤ x
    plus x y z e f h = omega (arith, ints)

    minus : (x y z : ℤ) → x ≡ y -ℤ z → z ≡ pos 0 → pos 0 <ℤ y → pos 0 <ℤ x
    minus x y z e f h = omega (arith, ints)
