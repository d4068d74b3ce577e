-- A half is known by its ends, but for outer halves.
use mathlib.Core.Path.{◌≡◌, refl, sym, ◌∙◌, ap, subst}
use mathlib.Core.Logic.{inl, inr}
use Prim.Native.Nat.{ℕ, ◌<◌}
use native.Mathlib.Omega.{arith}
use native.Mathlib.Decide.{ℕ_discrete}
use lib.IntN.{pos}
use lib.Signed.{◌≤ℤ◌, ◌<ℤ◌}
use Rattle.zring.proofs.Signs.{zero_clash, neg_both, zero-≥}
use Rattle.plane.specs.Plane.{S}
use Rattle.plane.proofs.Sides.{S-swap}
use Rattle.links.specs.Links.{Links, rev, halves, to, place}
use Rattle.links.proofs.Halves.{rev_rev, rev_below}
use Rattle.planar.specs.Planarity.{Sector}
use Rattle.planar.specs.Enough.{EdgesDiffer, SidesDiffer, BothOuter}
use Rattle.planar.proofs.Terms.{S-first, S-last}
use Rattle.planar.proofs.Faces.{Among, around, triangle, third, two}
use Rattle.planar.proofs.Planarity.{one_sector}
use Rattle.planar.proofs.Spokes.{flat}
use Rattle.planar.proofs.Views.{Ranges, Triangles, RightOf, area, Weave, Outside, ranges, weave, triangles, outside, right_in, positive}

-- two outer halves, there and back: all entries are on their line
all_on_line : (m : Links) → RightOf m → (a b : ℕ) → a < halves m → b < halves m → m.face a ≡ 0 → m.face b ≡ 0 → m.origin b ≡ to m a → to m b ≡ m.origin a
    → (w : ℕ) → w < m.n → S (place m (m.origin a)) (place m (to m a)) (place m w) ≡ pos 0
all_on_line m right a b al bl af bf e q w l =
    neg_both (S (place m (m.origin a)) (place m (to m a)) (place m w)) (S (place m (to m a)) (place m (m.origin a)) (place m w)) (S-swap (place m (m.origin a)) (place m (to m a)) (place m w)) (right a w al af l)
    (subst (λ i. S (place m (to m a)) (place m i) (place m w) ≤ℤ pos 0) q (subst (λ i. S (place m i) (place m (to m b)) (place m w) ≤ℤ pos 0) e (right b w bl bf l)))

pub both_outer : BothOuter
both_outer m u h w l wl f g = all_on_line m (right_in m u) h (rev h) l (rev_below m.e h l) f g refl (ap m.origin (rev_rev h)) w wl

module _ (m : Links) (r3 : Ranges m) (r4 : Weave m) (r5 : Triangles m) (right : RightOf m) (apart : (h : ℕ) → h < halves m → ¬ (place m (m.origin h) ≡ place m (to m h))) (f1 : 1 < m.f) where
  -- an edge with both sides outer leaves no inner face
  both_outer_none : (a b : ℕ) → a < halves m → b < halves m → m.face a ≡ 0 → m.face b ≡ 0 → m.origin b ≡ to m a → to m b ≡ m.origin a → ⊥
  both_outer_none a b al bl af bf e q =
      flat (place m (m.origin a)) (place m (to m a)) (place m (m.origin c)) (place m (m.origin (m.next c))) (place m (m.origin (m.next (m.next c)))) (λ z. apart a al (sym z))
      (all (m.origin c) (r3.origin_names c cl)) (all (m.origin (m.next c)) (r3.origin_names (m.next c) cl2)) (all (m.origin (m.next (m.next c))) (r3.origin_names (m.next (m.next c)) cl3)) (r5.turns 1 (omega arith) f1)
    where
      c : ℕ
      c = m.adj 1

      cl : c < halves m
      cl = r3.adj_in 1 f1 (two m r3 r4 a al)

      cl2 : m.next c < halves m
      cl2 = r3.next_names c cl

      cl3 : m.next (m.next c) < halves m
      cl3 = r3.next_names (m.next c) cl2

      all : (w : ℕ) → w < m.n → S (place m (m.origin a)) (place m (to m a)) (place m w) ≡ pos 0
      all w l = all_on_line m right a b al bl af bf e q w l

  pub parts : (h : ℕ) → h < halves m → ¬ (m.face h ≡ m.face (rev h))
  unfolding Among
  parts h l e = go (ℕ_discrete (m.face h) 0)
    where
      back : to m (rev h) ≡ m.origin h
      back = ap m.origin (rev_rev h)

      turned_in : (f : 0 < m.face h) → Among m h (rev h) → ⊥
      turned_in f (inl q) = r4.ends h l (ap m.origin q)
      turned_in f (inr (inl q)) =
          zero_clash (area m h) (ap (λ v. S (place m (m.origin h)) (place m (m.origin (m.next h))) (place m v)) (sym (r4.joins (m.next h) (r3.next_names h l)) ∙ ap (λ i. to m i) q ∙ back) ∙ S-first (place m (m.origin h)) (place m (m.origin (m.next h)))) (triangle m r3 r4 r5 h l f).turns
      turned_in f (inr (inr q)) =
          zero_clash (area m h) (ap (λ v. S (place m (m.origin h)) (place m (m.origin (m.next h))) (place m v)) (ap m.origin q ∙ r4.joins h l) ∙ S-last (place m (m.origin h)) (place m (m.origin (m.next h)))) (triangle m r3 r4 r5 h l f).turns

      go : Dec (m.face h ≡ 0) → ⊥
      go (yes z) = both_outer_none h (rev h) l (rev_below m.e h l) z (sym e ∙ z) refl back
      go (no d) = let f = positive (m.face h) d in turned_in f (around m r3 r4 r5 h (rev h) l (rev_below m.e h l) f (sym e))

module _ (m : Links) (r3 : Ranges m) (r4 : Weave m) (r5 : Triangles m) (u : Outside m) where
  -- the way of a half lies in its own sector
  pub own_sector : (h : ℕ) → h < halves m → 0 < m.face h → Sector m h (place m (to m h))
  own_sector h l f =
      let t = (triangle m r3 r4 r5 h l f).turns in
      let t1 = subst (λ v. pos 0 <ℤ S (place m (m.origin h)) (place m v) (place m (m.origin (m.next (m.next h))))) (sym (r4.joins h l)) t in
      record {
        since = zero-≥ (S (place m (m.origin h)) (place m (to m h)) (place m (to m h))) (S-last (place m (m.origin h)) (place m (to m h)));
        until = subst (λ v. pos 0 <ℤ S (place m (m.origin h)) (place m (to m h)) (place m v)) (third m r3 r4 r5 h l f) t1;
      }

  both_inner : (h k : ℕ) → h < halves m → k < halves m → 0 < m.face h → 0 < m.face k → m.origin h ≡ m.origin k → to m h ≡ to m k → h ≡ k
  both_inner h k hl kl hf kf e q =
      one_sector m r3 r4 r5 u h k (place m (to m h)) hl kl hf kf e (own_sector h hl hf) (subst (λ v. Sector m k (place m v)) (sym q) (own_sector k kl kf))

  module _ (apart : (h : ℕ) → h < halves m → ¬ (place m (m.origin h) ≡ place m (to m h))) (f1 : 1 < m.f) where
    -- one outer, one inner: from the other end both are inner
    outer_inner : (h k : ℕ) → h < halves m → k < halves m → m.face h ≡ 0 → m.origin h ≡ m.origin k → to m h ≡ to m k → h ≡ k
    outer_inner h k hl kl hf e q = go (ℕ_discrete (m.face (rev k)) 0)
      where
        hl' : rev h < halves m
        hl' = rev_below m.e h hl

        kl' : rev k < halves m
        kl' = rev_below m.e k kl

        back : (i : ℕ) → to m (rev i) ≡ m.origin i
        back i = ap m.origin (rev_rev i)

        go : Dec (m.face (rev k) ≡ 0) → h ≡ k
        go (yes z) = absurd (both_outer_none m r3 r4 r5 u.right apart f1 h (rev k) hl kl' hf z (sym q) (back k ∙ sym e))
        go (no d) =
            let same = both_inner (rev h) (rev k) hl' kl' (positive (m.face (rev h)) (λ z. parts m r3 r4 r5 u.right apart f1 h hl (hf ∙ sym z))) (positive (m.face (rev k)) d) q (back h ∙ e ∙ sym (back k)) in
            sym (rev_rev h) ∙ ap rev same ∙ rev_rev k

    pub differ : (h k : ℕ) → h < halves m → k < halves m → m.origin h ≡ m.origin k → to m h ≡ to m k → h ≡ k
    differ h k hl kl e q = go (ℕ_discrete (m.face h) 0) (ℕ_discrete (m.face k) 0)
      where
        go : Dec (m.face h ≡ 0) → Dec (m.face k ≡ 0) → h ≡ k
        go (yes a) b = outer_inner h k hl kl a e q
        go (no a) (yes b) = sym (outer_inner k h kl hl b (sym e) (sym q))
        go (no a) (no b) = both_inner h k hl kl (positive (m.face h) a) (positive (m.face k) b) e q

pub edges_differ : EdgesDiffer
edges_differ m r w t u c o = differ m (ranges m r) (weave m r w) (triangles m t) (outside m u c o)

pub sides_differ : SidesDiffer
sides_differ m r w t u = parts m (ranges m r) (weave m r w) (triangles m t) (right_in m u)
