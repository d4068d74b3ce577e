-- Entries on one line, over live records: all that is asked of a map without an inner face.
use Rattle.std.proofs.Common.{◌≡◌, ℕ, ◌+◌, ◌*◌, ◌/◌, ◌<◌, ◌≤◌, pos, nat_abs, ◌≤ℤ◌, sym, refl, ap, ◌∙◌, subst, ap₂, inl, inr, arith}
use Rattle.plane.specs.Plane.{pt, S}
use Rattle.links.specs.Links.{Links, to, place}
use Rattle.links.specs.Rules.{On, Placed, Sound}
use Rattle.links.proofs.Halves.{rev_even, rev_odd}
use Rattle.planar.specs.Enough.{EdgeRule}
use Rattle.planar.proofs.Views.{on_in, in_range, woven, ranges_of, edges_of, right_of}
use Rattle.planar.proofs.Spokes.{places_differ}
use Rattle.planar.proofs.Sixth.{enough_line}
use Rattle.surgery.specs.Renamed.{Renumbered}
use Rattle.surgery.specs.Shaped.{Shaped, Ruled}
use Rattle.surgery.specs.Sweep.{swap_remove_edge, swap_remove_entry, Others}
use Rattle.surgery.proofs.Roots.{Unrooted, unroot, root}
use Rattle.surgery.proofs.Theorems.{all_live, all_live_back}
use Rattle.surgery.proofs.Renumbering.{ident, after, in_words, unrooted_after, shaped_after, ruled_after}
use Rattle.surgery.proofs.Sweeping.{recount, edge_counts, entry_counts, edge_gone, entry_gone}

-- the link rules, the rules on places, and places on the grid
pub record Level (L : Links) (V E F : ℕ → Type 0) : Type 0 where
  pub linked : Unrooted L V E F
  pub shaped : Shaped L V E
  pub ruled : Ruled L V E
  pub placed : (v : ℕ) → V v → Placed L v

-- where all faces are outer
pub flat_shaped : {L : Links} {V E : ℕ → Type 0} → ((h : ℕ) → E (h / 2) → L.face h ≡ 0)
    → ((h v : ℕ) → E (h / 2) → V v → S (place L (L.origin h)) (place L (to L h)) (place L v) ≤ℤ pos 0)
    → ((u v : ℕ) → V u → V v → place L u ≡ place L v → u ≡ v) → Ruled L V E → Shaped L V E
flat_shaped flat right places r = record {
  three = λ h l n. absurd (n (flat h l));
  left = λ h l n. absurd (n (flat h l));
  empty = λ h v l _ n. absurd (n (flat h l));
  right = λ h v l lv _. right h v l lv;
  places = places;
  only = λ h k lh lk _ _. r.single h k lh lk;
}

-- a sound map without an inner face
pub sound_level : (m : Links) → Sound m → m.f ≡ 1 → 2 ≤ m.n → Level m (λ v. v < m.n) (λ k. k < m.e) (λ g. g < m.f)
sound_level m sd f1 two = record {
  linked = unroot m _ _ _ m.e (λ _ l. l) (all_live m two (in_range m sd) (woven m sd) sd.parted);
  shaped = flat_shaped flat (λ h v l lv. right_of m sd h v (in_halves h l) (flat h l) lv) (places_differ m sd) ruled;
  ruled = ruled;
  placed = sd.placed;
}
  where
    in_halves : (h : ℕ) → h / 2 < m.e → h < 2 * m.e
    in_halves h l = omega arith

    flat : (h : ℕ) → h / 2 < m.e → m.face h ≡ 0
    flat h l = omega (arith, (ranges_of m sd).face_names h (in_halves h l), f1)

    ruled : Ruled m (λ v. v < m.n) (λ k. k < m.e)
    ruled = record {
      apart = λ h l. (edges_of m sd).apart h (in_halves h l);
      single = λ h k lh lk. (edges_of m sd).only h k (in_halves h lh) (in_halves k lk);
      clear = λ h v l lv on. (edges_of m sd).clear h v (in_halves h l) lv (on_in _ _ _ on);
    }

-- the same place
pub placed_at : (L L' : Links) (v w : ℕ) → place L' v ≡ place L w → Placed L w → Placed L' v
placed_at L L' v w e p = (subst (λ z. z ≤ 16383) (sym (ap (λ q. nat_abs q.x) e)) p.0, subst (λ z. z ≤ 16383) (sym (ap (λ q. nat_abs q.y) e)) p.1)

-- other numbers
pub level_after : {L L' : Links} {V E F V' E' F' : ℕ → Type 0} → Renumbered L L' V E F V' E' F' → Level L V E F → Level L' V' E' F'
level_after {L} {L'} R G = record {
  linked = unrooted_after R G.linked;
  shaped = shaped_after R G.linked G.shaped;
  ruled = ruled_after R G.linked G.ruled;
  placed = λ v l. let N = R.renamed.entries in let b = N.back v l in
      placed_at L L' v (R.qv v) (ap (place L') (sym (N.there_back v l)) ∙ R.places _ b) (G.placed _ b);
}

-- rule 6, by edges
edge_rule : (m : Links) → Ruled m (λ v. v < m.n) (λ k. k < m.e) → EdgeRule m
edge_rule m r = record {
  apart = λ k l q. r.apart (2 * k) (even k l) (ap₂ (λ x y. pt (pos x) (pos y)) q.0 q.1 ∙ ap (place m) (sym (end k)));
  single = λ k l lk ll below twins. elim twins [
    | inl q ↦ omega (arith, below, r.single (2 * k) (2 * l) (even k lk) (even l ll) q.0 (end k ∙ q.1 ∙ sym (end l)))
    | inr q ↦ omega (arith, below, r.single (2 * k) (2 * l + 1) (even k lk) (odd l ll) q.0 (end k ∙ q.1 ∙ sym (ap m.origin (rev_odd l))))
  ];
  clear = λ k v lk lv on. elim (r.clear (2 * k) v (even k lk) lv (subst (λ w. On (place m (m.origin (2 * k))) (place m w) (place m v)) (sym (end k)) on)) [
    | inl q ↦ inl q
    | inr q ↦ inr (q ∙ end k)
  ];
}
  where
    even : (k : ℕ) → k < m.e → 2 * k / 2 < m.e
    even k l = omega arith

    odd : (k : ℕ) → k < m.e → (2 * k + 1) / 2 < m.e
    odd k l = omega arith

    end : (k : ℕ) → to m (2 * k) ≡ m.origin (2 * k + 1)
    end k = ap m.origin (rev_even k)

-- the counts of a line
pub record Tree (m : Links) : Type 0 where
  pub few : m.n ≤ 4096
  pub flat : m.f ≡ 1
  pub tree : m.n ≡ m.e + 1

-- all below the counts lives
pub level_sound : (m : Links) → 2 ≤ m.n → Tree m → Level m (λ v. v < m.n) (λ k. k < m.e) (λ g. g < m.f) → Sound m
level_sound m two t G =
    let e : m.e ≤ 12288 = omega (arith, t.few, t.tree) in
    let b = all_live_back m two e (root m _ _ _ G.linked) in
    enough_line m (t.few, e, omega (arith, t.flat), omega (arith, t.flat)) G.placed b.0 b.1 (omega arith) t.flat t.tree (edge_rule m G.ruled)
    (λ h v l lv f. G.shaped.right h v (omega arith) lv f)

-- ---- an entry and an edge are dead, and are removed
pub record Ready (L : Links) (v k : ℕ) : Type 0 where
  pub three : 3 ≤ L.n
  pub tree : Tree L
  pub entry : v < L.n
  pub edge : k < L.e
  pub level : Level L (Others L.n v) (Others L.e k) (λ g. g < L.f)

-- the edge first
pub edge_first : (L : Links) (v k : ℕ) → Ready L v k → Sound (swap_remove_entry v (swap_remove_edge k L))
edge_first L v k r =
    let K = swap_remove_edge k L in
    let M = swap_remove_entry v K in
    let c = edge_counts L k r.edge in
    let d = entry_counts K v (omega (arith, r.entry, c.2.n)) in
    let W = r.level.linked in
    let R = edge_gone L L.e k _ _ refl r.edge W in
    let Q = entry_gone K L.n v _ _ c.2.n r.entry (unrooted_after R W) in
    level_sound M (omega (arith, r.three, c.2.n, d.0))
    (record {
      few = omega (arith, r.tree.few, c.2.n, d.0);
      flat = d.2 ∙ c.1 ∙ r.tree.flat;
      tree = omega (arith, r.tree.tree, c.2.n, d.0, c.0, d.1);
    })
    (level_after (in_words (ident _) (recount (sym d.1)) (recount (sym (d.2 ∙ c.1))) W (after R Q)) r.level)

-- the entry first
pub entry_first : (L : Links) (v k : ℕ) → Ready L v k → Sound (swap_remove_edge k (swap_remove_entry v L))
entry_first L v k r =
    let K = swap_remove_entry v L in
    let M = swap_remove_edge k K in
    let c = entry_counts L v r.entry in
    let d = edge_counts K k (omega (arith, r.edge, c.1)) in
    let W = r.level.linked in
    let R = entry_gone L L.n v _ _ refl r.entry W in
    let Q = edge_gone K L.e k _ _ c.1 r.edge (unrooted_after R W) in
    level_sound M (omega (arith, r.three, c.0, d.2.n))
    (record {
      few = omega (arith, r.tree.few, c.0, d.2.n);
      flat = d.1 ∙ c.2 ∙ r.tree.flat;
      tree = omega (arith, r.tree.tree, c.0, d.2.n, c.1, d.0);
    })
    (level_after (in_words (recount (sym d.2.n)) (ident _) (recount (sym (d.1 ∙ c.2))) W (after R Q)) r.level)
