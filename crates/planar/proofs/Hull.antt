-- Two ways with all four ends on no left side, both from the left of one line to its right, are the same.
use mathlib.Core.Path.{◌≡◌, refl, ◌∙◌, ap}
use mathlib.Core.Logic.{◌⊎◌, inl, inr}
use mathlib.Core.Bool.{Bool, true, false}
use native.Mathlib.Omega.{arith}
use lib.IntN.{ℤ, pos, ◌+ℤ◌, ◌-ℤ◌, ◌*ℤ◌, neg_ℤ, zero-*ℤ}
use lib.Signed.{◌≤ℤ◌, ◌<ℤ◌, le_z}
use borrow.Author.Differences.{ints}
use Rattle.zring.proofs.Signs.{both_zero, sum-≥≥, mul-≥≥, mul->>, mul-≥≤, mul-≤≤, cancel-≥, cancel-≤, weaken, sq-≥, diff-≥}
use Rattle.plane.specs.Plane.{Pt, S, dot}
use Rattle.planar.proofs.Terms.{meet, apart_by}
use Rattle.planar.proofs.Views.{On}

pub either_way : (p q : ℤ) → (p ≤ℤ q) ⊎ (q ≤ℤ p)
either_way p q = go (le_z p q) refl
  where
    go : (b : Bool) → le_z p q ≡ b → (p ≤ℤ q) ⊎ (q ≤ℤ p)
    go true e = inl (omega (arith, ints))
    go false e = inr (omega (arith, ints))

-- four terms of which each is at most 0
all_zero : (p q r s : ℤ) → p -ℤ q +ℤ r -ℤ s ≡ pos 0 → p ≤ℤ pos 0 → pos 0 ≤ℤ q → r ≤ℤ pos 0 → pos 0 ≤ℤ s → (pos 0 ≤ℤ p) × (pos 0 ≤ℤ r)
all_zero p q r s e a b c d = (omega (arith, ints), omega (arith, ints))

-- the later ends lie on each other's lines
pub on_lines : (o t a b c d : Pt) → pos 0 <ℤ S o t a → S o t b ≤ℤ pos 0 → pos 0 <ℤ S o t c → S o t d ≤ℤ pos 0
    → S c d a ≤ℤ pos 0 → S c d b ≤ℤ pos 0 → S a b c ≤ℤ pos 0 → S a b d ≤ℤ pos 0 → (S c d b ≡ pos 0) × (S a b d ≡ pos 0)
on_lines o t a b c d ha hb hc hd ca cb ac ad =
    let z = all_zero (S o t a *ℤ S c d b) (S o t b *ℤ S c d a) (S o t c *ℤ S a b d) (S o t d *ℤ S a b c) (meet o t a b c d)
    (mul-≥≤ (S o t a) (S c d b) (weaken (pos 0) (S o t a) ha) cb) (mul-≤≤ (S o t b) (S c d a) hb ca)
    (mul-≥≤ (S o t c) (S a b d) (weaken (pos 0) (S o t c) hc) ad) (mul-≤≤ (S o t d) (S a b c) hd ac) in
    (both_zero (S c d b) (cancel-≥ (S o t a) (S c d b) ha z.0) cb, both_zero (S a b d) (cancel-≥ (S o t c) (S a b d) hc z.1) ad)

pub length-≥ : (a b : Pt) → pos 0 ≤ℤ dot a b b
unfolding dot
length-≥ a b = sum-≥≥ ((b.x -ℤ a.x) *ℤ (b.x -ℤ a.x)) ((b.y -ℤ a.y) *ℤ (b.y -ℤ a.y)) (sq-≥ (b.x -ℤ a.x)) (sq-≥ (b.y -ℤ a.y))

-- on the line, and between the ends by the distance from another line
pub on_segment_between : (o t a b q : Pt) → S o t b <ℤ S o t a → S o t b ≤ℤ S o t q → S o t q ≤ℤ S o t a → S a b q ≡ pos 0 → On a b q
on_segment_between o t a b q hab hb ha e = record {
  line = e;
  between = cancel-≤ D2 (dot q a b) (mul->> D D dpos dpos)
      (step (D2 *ℤ dot q a b) (S a b q *ℤ M) (G *ℤ dot a b b) (apart_by o t a b q) (ap (λ z. z *ℤ M) e ∙ zero-*ℤ M)
      (mul-≥≥ G (dot a b b) (mul-≥≥ (S o t a -ℤ S o t q) (S o t q -ℤ S o t b) (diff-≥ (S o t a) (S o t q) ha) (diff-≥ (S o t q) (S o t b) hb)) (length-≥ a b)));
}
  where
    D : ℤ
    D = S o t a -ℤ S o t b

    D2 : ℤ
    D2 = D *ℤ D

    G : ℤ
    G = (S o t a -ℤ S o t q) *ℤ (S o t q -ℤ S o t b)

    M : ℤ
    M = neg_ℤ ((S o t a -ℤ S o t q) *ℤ ((a.x -ℤ q.x) *ℤ (t.x -ℤ o.x) +ℤ (a.y -ℤ q.y) *ℤ (t.y -ℤ o.y))
        -ℤ (S o t b -ℤ S o t q) *ℤ ((b.x -ℤ q.x) *ℤ (t.x -ℤ o.x) +ℤ (b.y -ℤ q.y) *ℤ (t.y -ℤ o.y)))

    sdiff : (p r : ℤ) → r <ℤ p → pos 0 <ℤ (p -ℤ r)
    sdiff p r h = omega (arith, ints)

    dpos : pos 0 <ℤ D
    dpos = sdiff (S o t a) (S o t b) hab

    step : (l p g : ℤ) → l ≡ p -ℤ g → p ≡ pos 0 → pos 0 ≤ℤ g → l ≤ℤ pos 0
    step l p g e z h = omega (arith, ints)
