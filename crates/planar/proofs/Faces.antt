-- The three halves of an inner face.
use mathlib.Core.Path.{◌≡◌, refl, sym, ◌∙◌, ap, subst}
use mathlib.Core.Logic.{◌⊎◌, inl, inr}
use Prim.Native.Nat.{ℕ, zero, suc, ◌≤◌, ◌<◌}
use native.Mathlib.Omega.{arith}
use lib.Dec.{eqb}
use lib.IntN.{ℤ, pos, ◌+ℤ◌}
use lib.Signed.{◌<ℤ◌}
use Rattle.plane.specs.Plane.{Pt, S}
use Rattle.plane.proofs.Sides.{S-cyc}
use Rattle.links.specs.Links.{Links, rev, halves, to, ccw, place, walk}
use Rattle.links.proofs.Halves.{rev_rev, rev_below}
use Rattle.planar.specs.Star.{StarFace, StarFaces, CornersDiffer}
use Rattle.planar.proofs.Sums.{sum, when, sum_three}
use Rattle.planar.proofs.Views.{Ranges, Triangles, area, Weave, ranges, weave, triangles}

module _ (m : Links) where
  -- a face of three halves that turns left
  pub record Triangle (h : ℕ) : Type 0 where
    pub closes : m.next (m.next (m.next h)) ≡ h
    pub moves : ¬ (m.next h ≡ h)
    pub turns : pos 0 <ℤ area m h

  unfoldable pub Among : ℕ → ℕ → Type 0
  Among h i = (h ≡ i) ⊎ ((m.next h ≡ i) ⊎ (m.next (m.next h) ≡ i))

  onwards : (h : ℕ) → Triangle h → Triangle (m.next h)
  onwards h t = record {
    closes = ap m.next t.closes;
    moves = λ e. t.moves (sym (sym t.closes ∙ ap m.next e ∙ e));
    turns = subst (λ z. pos 0 <ℤ z) (S-cyc (at h) (at (m.next h)) (at (m.next (m.next h))) ∙ ap (λ i. S (at (m.next h)) (at (m.next (m.next h))) (at i)) (sym t.closes)) t.turns;
  }
    where
      at : ℕ → Pt
      at i = place m (m.origin i)

  from_next : (h i : ℕ) → Triangle h → Among h i → Among (m.next h) i
  unfolding Among
  from_next h i t (inl e) = inr (inr (t.closes ∙ e))
  from_next h i t (inr (inl e)) = inl e
  from_next h i t (inr (inr e)) = inr (inl e)

  to_next : (h i : ℕ) → Triangle h → Among h i → Among h (m.next i)
  unfolding Among
  to_next h i t (inl e) = inr (inl (ap m.next e))
  to_next h i t (inr (inl e)) = inr (inr (ap m.next e))
  to_next h i t (inr (inr e)) = inl (sym t.closes ∙ ap m.next e)

  all_triangles : (a : ℕ) → Triangle a → (j : ℕ) → Triangle (walk m.next j a)
  all_triangles a t zero = t
  all_triangles a t (suc j) = onwards (walk m.next j a) (all_triangles a t j)

  from_start : (a : ℕ) → Triangle a → (j : ℕ) → Among a (walk m.next j a)
  unfolding Among
  from_start a t zero = inl refl
  from_start a t (suc j) = to_next a (walk m.next j a) t (from_start a t j)

  from_any : (a i : ℕ) → Triangle a → Among a i → (j : ℕ) → Among (walk m.next j a) i
  from_any a i t p zero = p
  from_any a i t p (suc j) = from_next (walk m.next j a) i (all_triangles a t j) (from_any a i t p j)

module _ (m : Links) (r3 : Ranges m) (r4 : Weave m) where
  pub to_in : (h : ℕ) → h < halves m → to m h < m.n
  to_in h l = r3.origin_names (rev h) (rev_below m.e h l)

  -- where there is an edge there are two entries
  pub two : (h : ℕ) → h < halves m → 2 ≤ m.n
  two h l = go (m.origin h) (to m h) (r3.origin_names h l) (to_in h l) (r4.ends h l)
    where
      go : (a b : ℕ) → a < m.n → b < m.n → ¬ (a ≡ b) → 2 ≤ m.n
      go a b p q d = omega arith

module _ (m : Links) (r3 : Ranges m) (r4 : Weave m) (r5 : Triangles m) where
  first : (k : ℕ) → 0 < k → k < m.f → Triangle m (m.adj k)
  first k p l = record { closes = (r5.three k p l).1; moves = (r5.three k p l).0; turns = r5.turns k p l }

  -- each half of an inner face
  pub triangle : (h : ℕ) → h < halves m → 0 < m.face h → Triangle m h
  triangle h l p =
      let r = r4.adj_cycle h l in
      subst (λ i. Triangle m i) r.1 (all_triangles m (m.adj (m.face h)) (first (m.face h) p (r3.face_names h l)) r.0)

  pub around : (h i : ℕ) → h < halves m → i < halves m → 0 < m.face h → m.face i ≡ m.face h → Among m h i
  around h i l s p e =
      let a = m.adj (m.face h) in
      let t = first (m.face h) p (r3.face_names h l) in
      let r = r4.adj_cycle h l in
      let q = r4.adj_cycle i s in
      let q' = subst (λ k. walk m.next q.0 (m.adj k) ≡ i) e q.1 in
      subst (λ k. Among m k i) r.1 (from_any m a i t (subst (λ k. Among m a k) q' (from_start m a t q.0)) r.0)

  pub before : (h : ℕ) → h < halves m → 0 < m.face h → m.prev h ≡ m.next (m.next h)
  before h l p =
      let i = r3.next_names (m.next h) (r3.next_names h l) in
      ap m.prev (sym (triangle h l p).closes) ∙ (r4.undone (m.next (m.next h)) i).0

  pub third : (h : ℕ) → h < halves m → 0 < m.face h → m.origin (m.next (m.next h)) ≡ to m (ccw m h)
  third h l p = sym (ap m.origin (rev_rev (m.prev h) ∙ before h l p))

  -- a sum over the halves of an inner face
  pub sum_face : (g : ℕ → ℤ) (h : ℕ) → h < halves m → 0 < m.face h
      → sum (halves m) (λ i. when (eqb (m.face i) (m.face h)) (g i)) ≡ g h +ℤ g (m.next h) +ℤ g (m.next (m.next h))
  unfolding Among
  sum_face g h l p =
      let t = triangle h l p in
      let i = r3.next_names h l in
      let j = r3.next_names (m.next h) i in
      let t' = triangle (m.next h) i (subst (λ k. 0 < k) (sym (r4.shares h l)) p) in
      let f1 = r4.shares h l in
      sum_three (halves m) m.face g (m.face h) h (m.next h) (m.next (m.next h)) l i j
      (λ e. t.moves (sym e)) (λ e. t'.moves (sym e)) (λ e. t.moves (sym (sym t.closes ∙ ap m.next e)))
      refl f1 (r4.shares (m.next h) i ∙ f1) (λ k s e. around h k l s p e)

  -- an inner face has each of its corners once
  same_corner : (h k : ℕ) → h < halves m → k < halves m → 0 < m.face h → m.origin h ≡ m.origin k → Among m h k → h ≡ k
  unfolding Among
  same_corner h k hl kl p e (inl q) = q
  same_corner h k hl kl p e (inr (inl q)) = absurd (r4.ends h hl (e ∙ ap m.origin (sym q) ∙ sym (r4.joins h hl)))
  same_corner h k hl kl p e (inr (inr q)) =
      let i = r3.next_names (m.next h) (r3.next_names h hl) in
      absurd (r4.ends (m.next (m.next h)) i (ap m.origin q ∙ sym e ∙ ap m.origin (sym (triangle h hl p).closes) ∙ sym (r4.joins (m.next (m.next h)) i)))

  pub corner_once : (h k : ℕ) → h < halves m → k < halves m → 0 < m.face h → m.face h ≡ m.face k → m.origin h ≡ m.origin k → h ≡ k
  corner_once h k hl kl p q e = same_corner h k hl kl p e (around h k hl kl p (sym q))

  pub star_face : (h : ℕ) → h < halves m → 0 < m.face h → StarFace m h
  star_face h l p = record {
    border_from = sym (r4.joins h l);
    border_to = r4.joins (m.next h) (r3.next_names h l) ∙ third h l p;
    returns = sym (rev_rev (m.prev h) ∙ before h l p);
    again = ap m.next (rev_rev (m.prev h)) ∙ (r4.undone h l).1;
  }

pub corners_differ : CornersDiffer
corners_differ m r w t = corner_once m (ranges m r) (weave m r w) (triangles m t)

pub star_faces : StarFaces
star_faces m r w t = star_face m (ranges m r) (weave m r w) (triangles m t)
