-- Convex position of the tips around an entry.
use mathlib.Core.Path.{◌≡◌, sym, ◌∙◌, ap, subst}
use mathlib.Core.List.{[], ◌∷◌}
use mathlib.Core.Logic.{◌⊎◌, inl, inr}
use Prim.Native.Nat.{ℕ, suc, ◌<◌}
use native.Mathlib.Omega.{arith}
use lib.IntN.{ℤ, pos, ◌+ℤ◌, ◌-ℤ◌, ◌*ℤ◌, *ℤ-zero}
use lib.Signed.{◌≤ℤ◌, ◌<ℤ◌}
use borrow.Author.Differences.{ints}
use Rattle.zring.proofs.Ring.{v as var, k as num, ◌⊹◌, ◌⊖◌, ◌⊛◌, ring}
use Rattle.zring.proofs.Signs.{mul-≥≥, sign-≥, weaken, neg-back-≥}
use Rattle.plane.specs.Plane.{Pt, S, C}
use Rattle.plane.proofs.Sides.{S-cyc}
use Rattle.plane.proofs.Circles.{C-cyc, C-rot}
use Rattle.plane.proofs.Convex.{convex_at}
use Rattle.plane.proofs.Signs.{tied}
use Rattle.links.specs.Links.{Links, halves, to, place}
use Rattle.links.specs.Rules.{Sound}
use Rattle.planar.specs.Order.{Two, Bulges}
use Rattle.planar.specs.Star.{spoke, tip, Ring, Inner}
use Rattle.planar.specs.Convex.{StarEmpty, ConvexInside, ConvexHull, Weighs}
use Rattle.planar.proofs.Terms.{S-twice}
use Rattle.planar.proofs.Faces.{triangle, third, to_in, two, around, Among}
use Rattle.planar.proofs.Rings.{spoke_in, spoke_origin}
use Rattle.planar.proofs.Star.{ordered, turns_at}
use Rattle.planar.proofs.Views.{Ranges, Triangles, Circles, Weave, ranges_of, weave_of, triangles_of, circles_of}

-- ---- signs
bulges : (o a b c d : Pt) → pos 0 <ℤ S o a b → pos 0 <ℤ S o b c → pos 0 <ℤ S o b d → pos 0 ≤ℤ C b d a o → pos 0 ≤ℤ C b d c o → Bulges o a b c
bulges o a b c d ab bc bd ea ec = go (sign-≥ (C a b c o) (convex_at o a b c d ab bc bd ea ec))
  where
    go : (C a b c o ≡ pos 0) ⊎ (pos 0 <ℤ C a b c o) → Bulges o a b c
    go (inl e) = inr (e, (tied o a b c ab bc e).1)
    go (inr h) = inl h

bulges_turn : (o a b c : Pt) → Bulges o a b c → Bulges o b c a
bulges_turn o a b c (inl h) = inl (subst (λ z. pos 0 <ℤ z) (C-rot a b c o) h)
bulges_turn o a b c (inr (e, h)) = inr (sym (C-rot a b c o) ∙ e, subst (λ z. pos 0 <ℤ z) (S-cyc a b c) h)

-- ---- rule 8 from any half of a face
module _ (m : Links) (r3 : Ranges m) (r4 : Weave m) (r5 : Triangles m) (r8 : Circles m) where
  pub face_empty : (h w : ℕ) → h < halves m → 0 < m.face h → w < m.n → C (place m (m.origin h)) (place m (m.origin (m.next h))) (place m (m.origin (m.next (m.next h)))) (place m w) ≤ℤ pos 0
  unfolding Among
  face_empty h w l f wl =
      let k = m.face h in
      let kl = r3.face_names h l in
      let n2 = two m r3 r4 h l in
      let a = m.adj k in
      let al = r3.adj_in k kl n2 in
      let e = r4.adj_at k kl n2 in
      let t = triangle m r3 r4 r5 a al (subst (λ z. 0 < z) (sym e) f) in
      go a t.closes (r8 k w f kl wl) (around m r3 r4 r5 a h al l (subst (λ z. 0 < z) (sym e) f) (sym e))
    where
      at : ℕ → Pt
      at i = place m (m.origin i)

      power : ℕ → ℤ
      power i = C (at i) (at (m.next i)) (at (m.next (m.next i))) (place m w)

      step : (i : ℕ) → m.next (m.next (m.next i)) ≡ i → power i ≡ power (m.next i)
      step i e = C-rot (at i) (at (m.next i)) (at (m.next (m.next i))) (place m w) ∙ ap (λ j. C (at (m.next i)) (at (m.next (m.next i))) (at j) (place m w)) (sym e)

      go : (a : ℕ) → m.next (m.next (m.next a)) ≡ a → power a ≤ℤ pos 0 → Among m a h → power h ≤ℤ pos 0
      go a e z (inl q) = subst (λ i. power i ≤ℤ pos 0) q z
      go a e z (inr (inl q)) = subst (λ i. power i ≤ℤ pos 0) q (subst (λ y. y ≤ℤ pos 0) (step a e) z)
      go a e z (inr (inr q)) = subst (λ i. power i ≤ℤ pos 0) q (subst (λ y. y ≤ℤ pos 0) (step a e ∙ step (m.next a) (ap m.next e)) z)

-- ---- the star
module _ (m : Links) (sd : Sound m) (s : ℕ) (sl : s < halves m) where
  abbrev o : Pt
  o = place m (m.origin s)

  abbrev p : ℕ → Pt
  p i = tip m s i

  i_in : (i : ℕ) → spoke m s i < halves m
  i_in i = spoke_in m (ranges_of m sd) (weave_of m sd) s sl i

  tip_in : (i : ℕ) → to m (spoke m s i) < m.n
  tip_in i = to_in m (ranges_of m sd) (weave_of m sd) (spoke m s i) (i_in i)

  star_empty_at : (i : ℕ) → 0 < m.face (spoke m s i) → (w : ℕ) → w < m.n → pos 0 ≤ℤ C (p i) (p (suc i)) (place m w) o
  star_empty_at i f w wl =
      let h = spoke m s i in
      let z0 = face_empty m (ranges_of m sd) (weave_of m sd) (triangles_of m sd) (circles_of m sd) h w (i_in i) f wl in
      let z1 = subst (λ v. C (place m (m.origin h)) (place m v) (place m (m.origin (m.next (m.next h)))) (place m w) ≤ℤ pos 0) (sym ((weave_of m sd).joins h (i_in i))) z0 in
      let z2 = subst (λ v. C (place m (m.origin h)) (p i) (place m v) (place m w) ≤ℤ pos 0) (third m (ranges_of m sd) (weave_of m sd) (triangles_of m sd) h (i_in i) f) z1 in
      let z3 = subst (λ v. C (place m v) (p i) (p (suc i)) (place m w) ≤ℤ pos 0) (spoke_origin m (ranges_of m sd) (weave_of m sd) s sl i) z2 in
      neg-back-≥ (C o (p i) (p (suc i)) (place m w)) (C (p i) (p (suc i)) (place m w) o) (C-cyc o (p i) (p (suc i)) (place m w)) z3

  -- a tip with an inner face on its left, between two others
  middle : (i j l : ℕ) → 0 < m.face (spoke m s j) → pos 0 <ℤ S o (p i) (p j) → pos 0 <ℤ S o (p j) (p l) → Bulges o (p i) (p j) (p l)
  middle i j l f a b =
      bulges o (p i) (p j) (p l) (p (suc j)) a b (turns_at m sd s sl j f)
      (star_empty_at j f (to m (spoke m s i)) (tip_in i)) (star_empty_at j f (to m (spoke m s l)) (tip_in l))

  inside : Inner m (m.origin s) → (size : ℕ) → Ring m s size → (i j l : ℕ) → i < j → j < l → l < size → Bulges o (p i) (p j) (p l)
  inside inn size r i j l hij hjl hl = go (ordered m sd s sl inn size r i j l hij hjl hl).most
    where
      inner : (i : ℕ) → 0 < m.face (spoke m s i)
      inner i = inn (spoke m s i) (i_in i) (spoke_origin m (ranges_of m sd) (weave_of m sd) s sl i)

      go : Two (S o (p i) (p j)) (S o (p j) (p l)) (S o (p l) (p i)) → Bulges o (p i) (p j) (p l)
      go (inl (a, b)) = middle i j l (inner j) a b
      go (inr (inl (a, b))) = bulges_turn o (p l) (p i) (p j) (bulges_turn o (p j) (p l) (p i) (middle j l i (inner l) a b))
      go (inr (inr (a, b))) = bulges_turn o (p l) (p i) (p j) (middle l i j (inner i) a b)

pub star_empty : StarEmpty
star_empty m sd s sl i f w wl = star_empty_at m sd s sl i f w wl

pub convex_inside : ConvexInside
convex_inside m sd s sl inn size r i j l hij hjl hl = inside m sd s sl inn size r i j l hij hjl hl

pub convex_hull : ConvexHull
convex_hull m sd s sl last fan i j l hij hjl hl =
    middle m sd s sl i j l (fan.inner j (omega arith)) (fan.left i j hij (omega arith) (inr (omega arith))) (fan.left j l hjl hl (inl (omega arith)))

pub weighs : Weighs
weighs m w big o a b c al bl cl (inl h) = go (C (place m a) (place m b) (place m c) o) (S (place m a) (place m b) (place m c)) h (big a b c al bl cl) (big_one (S (place m a) (place m a) (place m a)) (S-twice (place m a) (place m a)) (big a a a al al al))
  where
    big_one : (z : ℤ) → z ≡ pos 0 → pos 0 <ℤ (w +ℤ z) → pos 0 <ℤ w
    big_one z e h = omega (arith, ints)

    go : (t z : ℤ) → pos 0 <ℤ t → pos 0 <ℤ (w +ℤ z) → pos 0 <ℤ w → pos 0 <ℤ (w *ℤ t +ℤ z)
    go t z ht hz hw =
        last (w *ℤ t) (w *ℤ (t -ℤ pos 1)) (ring (var 0 ⊛ var 1) (var 0 ⊛ (var 1 ⊖ num (pos 1)) ⊹ var 0) (w ∷ t ∷ []) tt) (mul-≥≥ w (t -ℤ pos 1) (weaken (pos 0) w hw) (omega (arith, ints)))
      where
        last : (x y : ℤ) → x ≡ y +ℤ w → pos 0 ≤ℤ y → pos 0 <ℤ (x +ℤ z)
        last x y e h = omega (arith, ints)
weighs m w big o a b c al bl cl (inr (e, h)) = go (w *ℤ C (place m a) (place m b) (place m c) o) (S (place m a) (place m b) (place m c)) (ap (λ z. w *ℤ z) e ∙ *ℤ-zero w) h
  where
    go : (x z : ℤ) → x ≡ pos 0 → pos 0 <ℤ z → pos 0 <ℤ (x +ℤ z)
    go x z e h = omega (arith, ints)
