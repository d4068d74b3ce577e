-- The two edges of an entry in the midst of a line, taken as one.
use mathlib.Core.Path.{◌≡◌, sym, ◌∙◌, ap, subst}
use mathlib.Core.List.{[], ◌∷◌}
use mathlib.Core.Logic.{◌⊎◌, inl, inr}
use Prim.Native.Nat.{ℕ, ◌<◌}
use native.Mathlib.Omega.{arith}
use native.Mathlib.Decide.{ℕ_discrete}
use lib.IntN.{ℤ, pos, ◌+ℤ◌, ◌-ℤ◌, ◌*ℤ◌, neg_ℤ, zero-*ℤ}
use lib.Signed.{◌≤ℤ◌, ◌<ℤ◌}
use borrow.Author.Differences.{ints}
use Rattle.zring.proofs.Ring.{◌⊹◌, ◌⊖◌, ◌⊛◌, ring}
use Rattle.zring.proofs.Signs.{pos_or, ≥-or, weaken, mul-≤≥, mul-<>, mul-<<, cancel-≤}
use Rattle.plane.specs.Plane.{Pt, S, dot}
use Rattle.plane.proofs.Sym.{SE, TE, coords}
use Rattle.plane.proofs.Sides.{area}
use Rattle.links.specs.Links.{halves, to, place}
use Rattle.links.specs.Rules as R
use Rattle.planar.specs.Star.{JoinedLine}
use Rattle.planar.proofs.Terms.{S-back, dot_swap}
use Rattle.planar.proofs.Views.{On, on_in, ranges_of, weave_of, edges_of}
use Rattle.planar.proofs.Faces.{to_in}
use Rattle.planar.proofs.Spokes.{spokes_differ, places_differ, length->, dot_nearer}
use Rattle.planar.proofs.Degree.{one_line, opposed, along_both}

-- how w on the line of a and b lies to both
both_ends : (o a b w : Pt) → dot w a b *ℤ dot o w w ≡ (dot o a w -ℤ dot o w w) *ℤ (dot o b w -ℤ dot o w w) +ℤ S o a w *ℤ S o b w
unfolding S dot
both_ends o a b w =
    ring (TE 3 1 2 ⊛ TE 0 3 3) ((TE 0 1 3 ⊖ TE 0 3 3) ⊛ (TE 0 2 3 ⊖ TE 0 3 3) ⊹ SE 0 1 3 ⊛ SE 0 2 3) (coords (o ∷ a ∷ b ∷ w ∷ [])) tt

-- w between a and b, and not on a's side of o: it is between o and b
beyond : (o a b w : Pt) → ¬ (w ≡ o) → S o a w ≡ pos 0 → S o b w ≡ pos 0 → dot w a b ≤ℤ pos 0 → dot o a w ≤ℤ pos 0 → On o b w
beyond o a b w n ea eb h l =
    record {
      line = eb;
      between = low (dot w o b) (dot o w w) (dot o w b) (dot o b w) (dot_nearer o w b) (dot_swap o w b)
          (elim (≥-or Y) [
            | inl p ↦ p
            | inr p ↦ absurd (over (dot w a b *ℤ dot o w w) (X *ℤ Y) (S o a w *ℤ S o b w) (both_ends o a b w) (ap (λ z. z *ℤ S o b w) ea ∙ zero-*ℤ (S o b w))
                (mul-≤≥ (dot w a b) (dot o w w) h (weaken (pos 0) (dot o w w) (length-> o w n))) (mul-<< X Y (under (dot o a w) (dot o w w) l (length-> o w n)) p))
          ]);
    }
  where
    X : ℤ
    X = dot o a w -ℤ dot o w w

    Y : ℤ
    Y = dot o b w -ℤ dot o w w

    under : (p q : ℤ) → p ≤ℤ pos 0 → pos 0 <ℤ q → (p -ℤ q) <ℤ pos 0
    under p q h l = omega (arith, ints)

    low : (z p q r : ℤ) → z ≡ p -ℤ q → q ≡ r → pos 0 ≤ℤ (r -ℤ p) → z ≤ℤ pos 0
    low z p q r e f h = omega (arith, ints)

    over : (x y z : ℤ) → x ≡ y +ℤ z → z ≡ pos 0 → x ≤ℤ pos 0 → pos 0 <ℤ y → ⊥
    over x y z e f h l = omega (arith, ints)

pub joined_line : JoinedLine
joined_line m sd f1 h k hl kl e d = record { level = level; clear = clear; single = single }
  where
    at : ℕ → Pt
    at = place m

    v : ℕ
    v = m.origin h

    o : Pt
    o = at v

    a : Pt
    a = at (to m h)

    b : Pt
    b = at (to m k)

    vl : v < m.n
    vl = (ranges_of m sd).origin_names h hl

    along_a : (w : ℕ) → w < m.n → S o a (at w) ≡ pos 0
    along_a w l = one_line m sd f1 h w hl l

    along_b : (w : ℕ) → w < m.n → S o b (at w) ≡ pos 0
    along_b w l = subst (λ u. S (at u) b (at w) ≡ pos 0) (sym e) (one_line m sd f1 k w kl l)

    flat : S o a b ≡ pos 0
    flat = along_a (to m k) (to_in m (ranges_of m sd) (weave_of m sd) k kl)

    away_a : ¬ (a ≡ o)
    away_a q = (edges_of m sd).apart h hl (sym q)

    away_b : ¬ (b ≡ o)
    away_b q = (edges_of m sd).apart k kl (ap at (sym e) ∙ sym q)

    -- the two lead opposite ways
    back : dot o a b <ℤ pos 0
    back = opposed o a b away_a away_b flat (elim (pos_or (dot o a b)) [ inl p ↦ absurd (d (spokes_differ m sd h k hl kl e (record { line = flat; ahead = p }))) | inr p ↦ p ])

    level : (w : ℕ) → w < m.n → S a b (at w) ≡ pos 0
    level w l = none (S a b (at w)) (S o a b) (S o (at w) b) (S o a (at w)) (S o b (at w)) (area o a b (at w)) flat (S-back o (at w) b) (along_b w l) (along_a w l)
      where
        none : (x p q r s : ℤ) → x ≡ p -ℤ q -ℤ r → p ≡ pos 0 → q ≡ neg_ℤ s → s ≡ pos 0 → r ≡ pos 0 → x ≡ pos 0
        none x p q r s e f g h i = omega (arith, ints)

    clear : (w : ℕ) → w < m.n → R.On a b (at w) → (w ≡ to m h) ⊎ ((w ≡ to m k) ⊎ (w ≡ v))
    clear w l on = go (ℕ_discrete w v)
      where
        between : dot (at w) a b ≤ℤ pos 0
        between = (on_in a b (at w) on).between

        near_a : ¬ (w ≡ v) → On o a (at w) → (w ≡ to m h) ⊎ ((w ≡ to m k) ⊎ (w ≡ v))
        near_a n x = elim ((edges_of m sd).clear h w hl l x) [ inl q ↦ absurd (n q) | inr q ↦ inl q ]

        near_b : ¬ (w ≡ v) → On o b (at w) → (w ≡ to m h) ⊎ ((w ≡ to m k) ⊎ (w ≡ v))
        near_b n x = elim ((edges_of m sd).clear k w kl l (subst (λ u. On (at u) b (at w)) e x)) [ inl q ↦ absurd (n (q ∙ sym e)) | inr q ↦ inr (inl q) ]

        side : ¬ (w ≡ v) → (pos 0 <ℤ dot o a (at w)) ⊎ (dot o a (at w) ≤ℤ pos 0) → (w ≡ to m h) ⊎ ((w ≡ to m k) ⊎ (w ≡ v))
        side n (inr p) = near_b n (beyond o a b (at w) (λ q. n (places_differ m sd w v l vl q)) (along_a w l) (along_b w l) between p)
        side n (inl p) =
            near_a n (beyond o b a (at w) (λ q. n (places_differ m sd w v l vl q)) (along_b w l) (along_a w l) (subst (λ z. z ≤ℤ pos 0) (dot_swap (at w) a b) between)
            (cancel-≤ (dot o a a) (dot o b (at w)) (length-> o a away_a)
            (low (dot o a b *ℤ dot o a (at w)) (S o a b *ℤ S o a (at w)) (dot o a a *ℤ dot o b (at w)) (along_both o a b (at w)) (mul-<> (dot o a b) (dot o a (at w)) back p) (ap (λ z. z *ℤ S o a (at w)) flat ∙ zero-*ℤ (S o a (at w))))))
          where
            low : (x y z : ℤ) → x +ℤ y ≡ z → x <ℤ pos 0 → y ≡ pos 0 → z ≤ℤ pos 0
            low x y z e h f = omega (arith, ints)

        go : Dec (w ≡ v) → (w ≡ to m h) ⊎ ((w ≡ to m k) ⊎ (w ≡ v))
        go (yes q) = inr (inr q)
        go (no n) = side n (pos_or (dot o a (at w)))

    single : (g : ℕ) → g < halves m → m.origin g ≡ to m h → to m g ≡ to m k → ⊥
    single g gl p q =
        elim ((edges_of m sd).clear g v gl vl
        (subst (λ i. On (at i) (at (to m g)) o) (sym p) (subst (λ i. On a (at i) o) (sym q) (record { line = level v vl; between = weaken (dot o a b) (pos 0) back })))) [
          | inl z ↦ (weave_of m sd).ends h hl (z ∙ p)
          | inr z ↦ (weave_of m sd).ends k kl (sym e ∙ z ∙ q)
        ]
