-- Around o: the circles of a ring turn outward, and ties are broken by sides.
use Rattle.std.proofs.Common.{◌≡◌, ◌≤◌, ℤ, pos, ◌+ℤ◌, ◌*ℤ◌, nat_abs, ◌≤ℤ◌, ◌<ℤ◌, ap, ◌∙◌, inl, inr, arith}
use lib.IntN.{*ℤ-zero}
use borrow.Author.Differences.{ints}
use Rattle.zring.proofs.Signs.{three-≥, weaken, sign-≥}
use Rattle.plane.specs.Plane.{Pt, S, C}
use Rattle.plane.specs.Signs.{top, Outward, Broken}
use Rattle.plane.proofs.Circles.{after}
use Rattle.plane.proofs.Signs.{tied}
use Rattle.plane.proofs.Bounds.{side_small}

pub convex_at : Outward
convex_at o a b c n hab hbc hn ha hc =
    three-≥ (C a b c o) (S o b n) (S o b c) (C b n a o) (S o a b) (C b n c o) (after o a b c n) hn (weaken (pos 0) (S o b c) hbc) ha (weaken (pos 0) (S o a b) hab) hc

-- the tie is broken by the side
pub strict_at : (o a b c : Pt) → nat_abs (S a b c) ≤ 268402689 → pos 0 <ℤ S o a b → pos 0 <ℤ S o b c → pos 0 ≤ℤ C a b c o → pos 0 <ℤ (top *ℤ C a b c o +ℤ S a b c)
strict_at o a b c m hab hbc h =
    elim (sign-≥ (C a b c o) h) [
      | inl e ↦ tie (top *ℤ C a b c o) (S a b c) (ap (λ z. top *ℤ z) e ∙ *ℤ-zero top) (tied o a b c hab hbc e).1
      | inr p ↦ more (C a b c o) (S a b c) p m
    ]
  where
    tie : (m s : ℤ) → m ≡ pos 0 → pos 0 <ℤ s → pos 0 <ℤ (m +ℤ s)
    tie m s e p = omega (arith, ints)

    more : (z s : ℤ) → pos 0 <ℤ z → nat_abs s ≤ 268402689 → pos 0 <ℤ (top *ℤ z +ℤ s)
    more z s p q = omega (arith, ints)

pub broken : Broken
broken o a b c ha hb hc = strict_at o a b c (side_small a b c ha hb hc)
