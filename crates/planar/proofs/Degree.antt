-- How many spokes an entry has.
use mathlib.Core.Path.{◌≡◌, refl, sym, ◌∙◌, ap, subst}
use mathlib.Core.List.{[], ◌∷◌}
use mathlib.Core.Logic.{inl, inr}
use Prim.Native.Nat.{ℕ, zero, suc, ◌≤◌, ◌<◌}
use native.Mathlib.Omega.{arith}
use native.Mathlib.Decide.{dec_le}
use lib.IntN.{ℤ, pos, ◌+ℤ◌, ◌*ℤ◌, neg_ℤ, zero-*ℤ}
use lib.Signed.{◌≤ℤ◌, ◌<ℤ◌}
use borrow.Author.Differences.{ints}
use Rattle.zring.proofs.Ring.{◌⊹◌, ◌⊛◌, ring}
use Rattle.zring.proofs.Signs.{mul->>, mul-≥≤, weaken, zero_clash, neg_clash, sum_clash, mul-<<}
use Rattle.plane.specs.Plane.{Pt, S, dot}
use Rattle.plane.proofs.Sym.{SE, coords, TE}
use Rattle.links.specs.Links.{rev, halves, to, place, walk}
use Rattle.links.proofs.Halves.{rev_below}
use Rattle.planar.specs.Star.{spoke, tip, ThreeHalves, ThreeSpokes, OneLine, TwoSpokes}
use Rattle.planar.specs.Order.{Along}
use Rattle.planar.proofs.Terms.{S-last, S-back}
use Rattle.planar.proofs.Order.{sign}
use Rattle.planar.proofs.Faces.{Triangle, triangle, to_in}
use Rattle.planar.proofs.Spokes.{spokes_differ, parts_of_squares, length->}
use Rattle.planar.proofs.Rings.{spoke_in, spoke_origin}
use Rattle.planar.proofs.Star.{turns_at, away}
use Rattle.planar.proofs.Views.{ranges_of, weave_of, ranges, weave, triangles}
use Rattle.planar.proofs.Ends.{both_outer}

-- ---- an inner face
pub three_halves : ThreeHalves
three_halves m r w c s sl f size y = go size y.some y.closed y.apart
  where
    t : Triangle m s
    t = triangle m (ranges m r) (weave m r w) (triangles m c) s sl f

    go : (n : ℕ) → 0 < n → walk m.next n s ≡ s → ((i j : ℕ) → i < j → j < n → ¬ (walk m.next i s ≡ walk m.next j s)) → n ≡ 3
    go zero l e d = absurd (omega arith)
    go (suc zero) l e d = absurd (t.moves e)
    go (suc (suc zero)) l e d = absurd (t.moves (sym (ap m.next e) ∙ t.closes))
    go (suc (suc (suc zero))) l e d = refl
    go (suc (suc (suc (suc n)))) l e d = absurd (d 0 3 (omega arith) (omega arith) (sym t.closes))

-- ---- an inner entry
pub three_spokes : ThreeSpokes
three_spokes m sd s sl inn size r = go size r.some r.closed
  where
    o : Pt
    o = place m (m.origin s)

    p : ℕ → Pt
    p i = tip m s i

    turns : (i : ℕ) → pos 0 <ℤ S o (p i) (p (suc i))
    turns i = turns_at m sd s sl i (inn (spoke m s i) (spoke_in m (ranges_of m sd) (weave_of m sd) s sl i) (spoke_origin m (ranges_of m sd) (weave_of m sd) s sl i))

    again : (n : ℕ) → spoke m s n ≡ s → p n ≡ p 0
    again n e = ap (λ h. place m (to m h)) e

    go : (n : ℕ) → 0 < n → spoke m s n ≡ s → 3 ≤ n
    go zero l e = absurd (omega arith)
    go (suc zero) l e = absurd (zero_clash (S o (p 0) (p 1)) (ap (λ q. S o (p 0) q) (again 1 e) ∙ S-last o (p 0)) (turns 0))
    go (suc (suc zero)) l e = absurd (neg_clash (S o (p 0) (p 1)) (S o (p 1) (p 0)) (S-back o (p 0) (p 1)) (turns 0) (subst (λ q. pos 0 <ℤ S o (p 1) q) (again 2 e) (turns 1)))
    go (suc (suc (suc n))) l e = omega arith

-- ---- a line
pub one_line : OneLine
one_line m sd f1 h w hl wl =
    both_outer m sd.hulled h w hl wl (outer (m.face h) ((ranges_of m sd).face_names h hl)) (outer (m.face (rev h)) ((ranges_of m sd).face_names (rev h) (rev_below m.e h hl)))
  where
    outer : (k : ℕ) → k < m.f → k ≡ 0
    outer k l = omega arith

pub along_both : (o a b c : Pt) → dot o a b *ℤ dot o a c +ℤ S o a b *ℤ S o a c ≡ dot o a a *ℤ dot o b c
unfolding S dot
along_both o a b c = ring (TE 0 1 2 ⊛ TE 0 1 3 ⊹ SE 0 1 2 ⊛ SE 0 1 3) (TE 0 1 1 ⊛ TE 0 2 3) (coords (o ∷ a ∷ b ∷ c ∷ [])) tt

-- on a line, two directions that are not the same are opposite
pub opposed : (o a b : Pt) → ¬ (a ≡ o) → ¬ (b ≡ o) → S o a b ≡ pos 0 → dot o a b ≤ℤ pos 0 → dot o a b <ℤ pos 0
opposed o a b na nb e h = elim (sign (neg_ℤ (dot o a b))) [
  | inr q ↦ below (dot o a b) q
  | inl q ↦ absurd (sum_clash (dot o a a *ℤ dot o b b) (dot o a b *ℤ dot o a b) (S o a b *ℤ S o a b) (parts_of_squares o a b) (mul->> (dot o a a) (dot o b b) (length-> o a na) (length-> o b nb))
      (ap (λ z. z *ℤ dot o a b) (nought (dot o a b) h q) ∙ zero-*ℤ (dot o a b)) (ap (λ z. z *ℤ S o a b) e ∙ zero-*ℤ (S o a b)))
]
  where
    below : (z : ℤ) → pos 0 <ℤ neg_ℤ z → z <ℤ pos 0
    below z h = omega (arith, ints)

    nought : (z : ℤ) → z ≤ℤ pos 0 → neg_ℤ z ≤ℤ pos 0 → z ≡ pos 0
    nought z h l = omega (arith, ints)

pub two_spokes : TwoSpokes
two_spokes m sd f1 s sl size r = go (dec_le size 2)
  where
    o : Pt
    o = place m (m.origin s)

    p : ℕ → Pt
    p i = tip m s i

    i_in : (i : ℕ) → spoke m s i < halves m
    i_in i = spoke_in m (ranges_of m sd) (weave_of m sd) s sl i

    i_from : (i : ℕ) → m.origin (spoke m s i) ≡ m.origin s
    i_from i = spoke_origin m (ranges_of m sd) (weave_of m sd) s sl i

    flat : (i j : ℕ) → S o (p i) (p j) ≡ pos 0
    flat i j = subst (λ u. S (place m u) (p i) (p j) ≡ pos 0) (i_from i) (one_line m sd f1 (spoke m s i) (to m (spoke m s j)) (i_in i) (to_in m (ranges_of m sd) (weave_of m sd) (spoke m s j) (i_in j)))

    not_along : (i j : ℕ) → i < j → j < size → dot o (p i) (p j) ≤ℤ pos 0
    not_along i j h l = elim (sign (dot o (p i) (p j))) [
      | inl q ↦ q
      | inr q ↦ absurd (r.apart i j h l (spokes_differ m sd (spoke m s i) (spoke m s j) (i_in i) (i_in j) (i_from i ∙ sym (i_from j))
          (subst (λ u. Along (place m u) (p i) (p j)) (sym (i_from i)) (record { line = flat i j; ahead = q }))))
    ]

    against : (i j : ℕ) → i < j → j < size → dot o (p i) (p j) <ℤ pos 0
    against i j h l = opposed o (p i) (p j) (away m sd s sl i) (away m sd s sl j) (flat i j) (not_along i j h l)

    clash : (x y z : ℤ) → x +ℤ y ≡ z → pos 0 <ℤ x → y ≡ pos 0 → z ≤ℤ pos 0 → ⊥
    clash x y z e h f l = omega (arith, ints)

    go : Dec (size ≤ 2) → size ≤ 2
    go (yes h) = h
    go (no h) =
        let three : 3 ≤ size = omega arith in
        absurd (clash (dot o (p 0) (p 1) *ℤ dot o (p 0) (p 2)) (S o (p 0) (p 1) *ℤ S o (p 0) (p 2)) (dot o (p 0) (p 0) *ℤ dot o (p 1) (p 2)) (along_both o (p 0) (p 1) (p 2))
        (mul-<< (dot o (p 0) (p 1)) (dot o (p 0) (p 2)) (against 0 1 (omega arith) (omega arith)) (against 0 2 (omega arith) (omega arith)))
        (ap (λ z. z *ℤ S o (p 0) (p 2)) (flat 0 1) ∙ zero-*ℤ (S o (p 0) (p 2)))
        (mul-≥≤ (dot o (p 0) (p 0)) (dot o (p 1) (p 2)) (weaken (pos 0) (dot o (p 0) (p 0)) (length-> o (p 0) (away m sd s sl 0))) (not_along 1 2 (omega arith) (omega arith))))
