-- The rules do not see names: each is carried from the live records to the new map.
use mathlib.Core.Path.{◌≡◌, refl, sym, ◌∙◌, ap, subst}
use mathlib.Core.Bool.{Bool}
use Prim.Native.Nat.{ℕ, zero, suc, ◌*◌, ◌≤◌, ◌<◌}
use native.Mathlib.Omega.{arith}
use lib.IntN.{pos}
use lib.Signed.{◌≤ℤ◌, ◌<ℤ◌}
use Rattle.plane.specs.Plane.{Pt, S, C}
use Rattle.links.specs.Links.{Links, rev, halves, to, ccw, place, walk, Reached}
use Rattle.links.specs.Rules.{corner0, corner1, corner2}
use Rattle.links.specs.Rules as R
use Rattle.links.proofs.Halves.{rev_below, rev_even}
use Rattle.planar.specs.Parts.{InRange, Woven, CcwFaces, HullRule, CircleRule}
use Rattle.planar.specs.Moved.{LiveLinks, LivePlaces, Moved, Kept, Renames}
use Rattle.planar.proofs.Views.{Ranges, area, power, ranges, positive}

module _ (m w : Links) (V H F : ℕ → Bool) (l : LiveLinks m V H F) (c : LivePlaces m V H F) (t : Moved m V H F w) (q : InRange w) (n2 : 2 ≤ w.n) where
  r : Ranges w
  r = ranges w q

  nx : (h : ℕ) → h < halves w → w.next h < halves w
  nx = r.next_names

  rv : (h : ℕ) → h < halves w → rev h < halves w
  rv h p = rev_below w.e h p

  out_in : (v : ℕ) → v < w.n → w.out v < halves w
  out_in v p = r.out_in v p n2

  adj_in : (k : ℕ) → k < w.f → w.adj k < halves w
  adj_in k p = r.adj_in k p n2

  tos : (h : ℕ) → h < halves w → t.entry (to w h) ≡ to m (t.half h)
  tos h p = t.origins (rev h) (rv h p) ∙ ap m.origin (t.revs h p)

  -- ---- walks
  module _ (step step' : ℕ → ℕ) (into : (h : ℕ) → h < halves w → step' h < halves w) (same : (h : ℕ) → h < halves w → t.half (step' h) ≡ step (t.half h)) where
    walk_in : (s : ℕ) → s < halves w → (j : ℕ) → walk step' j s < halves w
    walk_in s p zero = p
    walk_in s p (suc j) = into (walk step' j s) (walk_in s p j)

    walks : (s : ℕ) → s < halves w → (j : ℕ) → t.half (walk step' j s) ≡ walk step j (t.half s)
    walks s p zero = refl
    walks s p (suc j) = same (walk step' j s) (walk_in s p j) ∙ ap step (walks s p j)

    reaches : (s h : ℕ) → s < halves w → h < halves w → Reached step (t.half s) (t.half h) → Reached step' s h
    reaches s h p q (j, e) = (j, t.half_only (walk step' j s) h (walk_in s p j) q (walks s p j ∙ e))

  ccw_in : (h : ℕ) → h < halves w → ccw w h < halves w
  ccw_in h p = rv (w.prev h) (r.prev_names h p)

  ccws : (h : ℕ) → h < halves w → t.half (ccw w h) ≡ ccw m (t.half h)
  ccws h p = t.revs (w.prev h) (r.prev_names h p) ∙ ap rev (t.prevs h p)

  around : (v : ℕ) → v < w.n → R.Around w v
  around v p = (
    (λ _. t.entry_only (w.origin (w.out v)) v (r.origin_names (w.out v) (out_in v p)) p (t.origins (w.out v) (out_in v p) ∙ ap m.origin (t.outs v p) ∙ l.out_at (t.entry v) (t.entry_live v p))),
    λ h hl e. (
      (q.out_rooted v p).1 n2,
      reaches (ccw m) (ccw w) ccw_in ccws (w.out v) h (out_in v p) hl
          (subst (λ s. Reached (ccw m) s (t.half h)) (ap m.out (sym (t.origins h hl) ∙ ap t.entry e) ∙ sym (t.outs v p)) (l.out_cycle (t.half h) (t.half_live h hl))),
    ),
  )

  along : (k : ℕ) → k < w.f → R.Along w k
  along k p = (
    (λ _. t.side_only (w.face (w.adj k)) k (r.face_names (w.adj k) (adj_in k p)) p (t.faces (w.adj k) (adj_in k p) ∙ ap m.face (t.adjs k p) ∙ l.adj_at (t.side k) (t.side_live k p))),
    λ h hl e. (
      (q.adj_rooted k p).1 n2,
      reaches m.next w.next nx t.nexts (w.adj k) h (adj_in k p) hl
          (subst (λ s. Reached m.next s (t.half h)) (ap m.adj (sym (t.faces h hl) ∙ ap t.side e) ∙ sym (t.adjs k p)) (l.adj_cycle (t.half h) (t.half_live h hl))),
    ),
  )

  woven : Woven w
  woven = record {
    undone = λ h p. (
      t.half_only (w.prev (w.next h)) h (r.prev_names (w.next h) (nx h p)) p (t.prevs (w.next h) (nx h p) ∙ ap m.prev (t.nexts h p) ∙ (l.undone (t.half h) (t.half_live h p)).0),
      t.half_only (w.next (w.prev h)) h (nx (w.prev h) (r.prev_names h p)) p (t.nexts (w.prev h) (r.prev_names h p) ∙ ap m.next (t.prevs h p) ∙ (l.undone (t.half h) (t.half_live h p)).1),
    );
    shared = λ h p.
        t.side_only (w.face (w.next h)) (w.face h) (r.face_names (w.next h) (nx h p)) (r.face_names h p)
        (t.faces (w.next h) (nx h p) ∙ ap m.face (t.nexts h p) ∙ l.shares (t.half h) (t.half_live h p) ∙ sym (t.faces h p));
    joined = λ h p.
        t.entry_only (to w h) (w.origin (w.next h)) (r.origin_names (rev h) (rv h p)) (r.origin_names (w.next h) (nx h p))
        (tos h p ∙ l.joins (t.half h) (t.half_live h p) ∙ sym (t.origins (w.next h) (nx h p) ∙ ap m.origin (t.nexts h p)));
    around = around;
    along = along;
    ended = λ k p e.
        let h : 2 * k < halves w = omega arith in
        l.ends (t.half (2 * k)) (t.half_live (2 * k) h) (sym (t.origins (2 * k) h) ∙ ap t.entry (e ∙ ap w.origin (sym (rev_even k))) ∙ tos (2 * k) h);
  }

  -- ---- places
  at_origin : (h : ℕ) → h < halves w → place w (w.origin h) ≡ place m (m.origin (t.half h))
  at_origin h p = t.at (w.origin h) (r.origin_names h p) ∙ ap (place m) (t.origins h p)

  at_to : (h : ℕ) → h < halves w → place w (to w h) ≡ place m (to m (t.half h))
  at_to h p = t.at (to w h) (r.origin_names (rev h) (rv h p)) ∙ ap (place m) (tos h p)

  -- the corners of the face of h, and those of where h stands
  corner_2 : (h : ℕ) → h < halves w → place w (w.origin (w.next h)) ≡ place m (m.origin (m.next (t.half h)))
  corner_2 h p = at_origin (w.next h) (nx h p) ∙ ap (λ i. place m (m.origin i)) (t.nexts h p)

  corner_3 : (h : ℕ) → h < halves w → place w (w.origin (w.next (w.next h))) ≡ place m (m.origin (m.next (m.next (t.half h))))
  corner_3 h p = corner_2 (w.next h) (nx h p) ∙ ap (λ i. place m (m.origin (m.next i))) (t.nexts h p)

  same_3 : (P : Pt → Pt → Pt → Type 0) (a b c a' b' c' : Pt) → a' ≡ a → b' ≡ b → c' ≡ c → P a b c → P a' b' c'
  same_3 P a b c a' b' c' p q s h = subst (λ z. P a' b' z) (sym s) (subst (λ z. P a' z c) (sym q) (subst (λ z. P z b c) (sym p) h))

  inner : (k : ℕ) → ¬ (k ≡ 0) → k < w.f → 0 < t.side k
  inner k d q = positive (t.side k) (λ e. d (t.side_only k 0 q (first k q) (e ∙ sym t.outer)))
    where
      first : (k : ℕ) → k < w.f → 0 < w.f
      first k l = omega arith

  faces : CcwFaces w
  faces k q d =
      let a = adj_in k q in
      let old = c.three (t.side k) (inner k d q) (t.side_live k q) in (
        (λ e. old.0 (ap m.next (sym (t.adjs k q)) ∙ sym (t.nexts (w.adj k) a) ∙ ap t.half e ∙ t.adjs k q)),
        t.half_only (w.next (w.next (w.next (w.adj k)))) (w.adj k) (nx (w.next (w.next (w.adj k))) (nx (w.next (w.adj k)) (nx (w.adj k) a))) a
            (t.nexts (w.next (w.next (w.adj k))) (nx (w.next (w.adj k)) (nx (w.adj k) a)) ∙ ap m.next (t.nexts (w.next (w.adj k)) (nx (w.adj k) a) ∙ ap m.next (t.nexts (w.adj k) a ∙ ap m.next (t.adjs k q))) ∙ old.1 ∙ sym (t.adjs k q)),
        same_3 (λ x y z. pos 0 <ℤ S x y z) _ _ _ _ _ _ (at_origin (w.adj k) a) (corner_2 (w.adj k) a) (corner_3 (w.adj k) a)
            (subst (λ i. pos 0 <ℤ area m i) (sym (t.adjs k q)) (c.turns (t.side k) (inner k d q) (t.side_live k q))),
      )

  hull_rule : HullRule w
  hull_rule h v p q f =
      same_3 (λ x y z. S x y z ≤ℤ pos 0) _ _ _ _ _ _ (at_origin h p) (at_to h p) (t.at v q)
      (c.right (t.half h) (t.entry v) (t.half_live h p) (sym (t.faces h p) ∙ ap t.side f ∙ t.outer) (t.entry_live v q))

  circle_rule : CircleRule w
  circle_rule k v q s d =
      let a = adj_in k q in
      subst (λ d. C (corner0 w (w.adj k)) (corner1 w (w.adj k)) (corner2 w (w.adj k)) d ≤ℤ pos 0) (sym (t.at v s))
      (same_3 (λ x y z. C x y z (place m (t.entry v)) ≤ℤ pos 0) _ _ _ _ _ _ (at_origin (w.adj k) a) (corner_2 (w.adj k) a) (corner_3 (w.adj k) a)
      (subst (λ i. power m i (t.entry v) ≤ℤ pos 0) (sym (t.adjs k q)) (c.round (t.side k) (t.entry v) (inner k d q) (t.side_live k q) (t.entry_live v s))))

  kept : Kept w
  kept = record {
    woven = woven;
    ccw_faces = faces;
    hull_rule = hull_rule;
    circle_rule = circle_rule;
    places = λ u v p q e. t.entry_only u v p q (c.places (t.entry u) (t.entry v) (t.entry_live u p) (t.entry_live v q) (sym (t.at u p) ∙ e ∙ t.at v q));
    outer_only = λ h k p q hf kf e f. t.half_only h k p q (c.only (t.half h) (t.half k) (t.half_live h p) (t.half_live k q) (sym (t.faces h p) ∙ ap t.side hf ∙ t.outer) (sym (t.faces k q) ∙ ap t.side kf ∙ t.outer)
        (sym (t.origins h p) ∙ ap t.entry e ∙ t.origins k q) (sym (tos h p) ∙ ap t.entry f ∙ tos k q));
  }

pub renames : Renames
renames m w V H F l c t r n2 = kept m w V H F l c t r n2
