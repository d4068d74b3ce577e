-- Links whose records below the counts all live are a sound map, by their faces and places.
use Rattle.std.proofs.Common.{◌≡◌, ℕ, suc, pred, ◌+◌, ◌*◌, ◌/◌, ◌<◌, ◌≤◌, Bool, true, false, cond, eqb, ◌≢◌, ◌⊎◌, pos, nat_abs, ◌≤ℤ◌, sym, ap, ◌∙◌, subst, ap₂, inl, inr, arith}
use Rattle.plane.specs.Plane.{pt, S}
use Rattle.links.specs.Links.{Links, to, place}
use Rattle.links.specs.Rules.{On, Counted, Placed, Single, Clear, Apart, Sound}
use Rattle.links.proofs.Halves.{rev_even, rev_odd}
use Rattle.planar.specs.Parts.{CcwFaces, CircleRule}
use Rattle.planar.specs.Enough.{EdgeRule}
use Rattle.planar.proofs.Sixth.{enough, enough_line}
use Rattle.surgery.specs.Linked.{Linked}
use Rattle.surgery.specs.Shaped.{Shaped, Ruled}
use Rattle.surgery.specs.Theorems.{AllLinked}
use Rattle.surgery.proofs.Theorems.{all_live_back}

-- the last entry has taken the place of v
abbrev pub LastAt : Links → ℕ → Links → Type 0
LastAt m v K = (w : ℕ) → w < K.n → place K w ≡ place m (cond (eqb w v) (pred m.n) w)

-- the same place has the same coordinates
same_xy : (m K : Links) (u w : ℕ) → place K w ≡ place m u → (K.x w ≡ m.x u) × (K.y w ≡ m.y u)
same_xy m K u w e = (ap (λ p. nat_abs p.x) e, ap (λ p. nat_abs p.y) e)

-- places stay on the grid
pub placed_after : (m K : Links) (v : ℕ) → Sound m → v < m.n → suc K.n ≡ m.n → LastAt m v K → (w : ℕ) → w < K.n → Placed K w
placed_after m K v sd vl n at w l = go (eqb w v) (at w l)
  where
    go : (b : Bool) → place K w ≡ place m (cond b (pred m.n) w) → Placed K w
    go true e = let q = same_xy m K (pred m.n) w e in let p = sd.placed (pred m.n) (omega arith) in (omega arith, omega arith)
    go false e = let q = same_xy m K w w e in let p = sd.placed w (omega arith) in (omega arith, omega arith)

-- there are no more records than before
counted_after : (m K : Links) → Sound m → suc K.n ≡ m.n → K.e ≤ m.e → K.f ≤ m.f → 1 ≤ K.f → Counted K
counted_after m K sd n e f one = let c = sd.counted in (omega arith, omega arith, one, omega arith)

-- a half below twice the count is one of an edge below the count
pub in_edges : (h e : ℕ) → h < 2 * e → h / 2 < e
in_edges h e l = omega arith

pub in_halves : (h e : ℕ) → h / 2 < e → h < 2 * e
in_halves h e l = omega arith

-- what is said by halves is said of each face by the half that it names
module _ (K : Links) (J : AllLinked K) (G : Shaped K (λ w. w < K.n) (λ k. k < K.e)) where
  named_inner : (k : ℕ) → k < K.f → k ≢ 0 → K.face (K.adj k) ≢ 0
  named_inner k l d q = d (sym (J.adj_face k l) ∙ q)

  faces_turn : CcwFaces K
  faces_turn k l d =
      let b = J.adj_live k l in
      let n = named_inner k l d in
      ((G.three (K.adj k) b n).0, (G.three (K.adj k) b n).1, G.left (K.adj k) b n)

  faces_empty : CircleRule K
  faces_empty k v l vl d = G.empty (K.adj k) v (J.adj_live k l) vl (named_inner k l d)

-- with an inner face
pub finish : (m K : Links) (v : ℕ) → Sound m → v < m.n → suc K.n ≡ m.n → K.e ≤ m.e → K.f ≤ m.f → 1 < K.f → 2 ≤ K.n → K.n + K.f ≡ K.e + 2
    → ((w : ℕ) → w < K.n → place K w ≡ place m (cond (eqb w v) (pred m.n) w))
    → Linked K (λ w. w < K.n) (λ k. k < K.e) (λ g. g < K.f) → Shaped K (λ w. w < K.n) (λ k. k < K.e) → Sound K
finish m K v sd vl n e f f1 n2 euler at J G =
    let c = counted_after m K sd n e f (omega arith) in
    let r = all_live_back K n2 c.1 J in
    enough K c (placed_after m K v sd vl n at) (omega arith) r.0 r.1 euler (faces_turn K J G)
    (λ h w l wl q. G.right h w (in_edges h K.e l) wl q) (faces_empty K J G) f1 G.places
    (λ h k hl kl. G.only h k (in_edges h K.e hl) (in_edges k K.e kl))

-- rule 6 by halves is rule 6 by edges
module _ (K : Links) (G : Ruled K (λ w. w < K.n) (λ k. k < K.e)) where
  even_in : (k : ℕ) → k < K.e → (2 * k) / 2 < K.e
  even_in k l = omega arith

  odd_in : (k : ℕ) → k < K.e → (2 * k + 1) / 2 < K.e
  odd_in k l = omega arith

  -- where the two halves of an edge lead
  even_to : (k : ℕ) → to K (2 * k) ≡ K.origin (2 * k + 1)
  even_to k = ap K.origin (rev_even k)

  odd_to : (k : ℕ) → to K (2 * k + 1) ≡ K.origin (2 * k)
  odd_to k = ap K.origin (rev_odd k)

  edges_apart : (k : ℕ) → k < K.e → Apart K k
  edges_apart k l q = G.apart (2 * k) (even_in k l) (ap₂ (λ x y. pt (pos x) (pos y)) q.0 q.1 ∙ ap (place K) (sym (even_to k)))

  edges_single : (k l : ℕ) → k < K.e → l < K.e → Single K k l
  edges_single k l kl ll lt (inl (p, q)) = absurd (different (G.single (2 * k) (2 * l) (even_in k kl) (even_in l ll) p (even_to k ∙ q ∙ sym (even_to l))))
    where
      different : 2 * k ≡ 2 * l → ⊥
      different e = omega arith
  edges_single k l kl ll lt (inr (p, q)) = absurd (different (G.single (2 * k) (2 * l + 1) (even_in k kl) (odd_in l ll) p (even_to k ∙ q ∙ sym (odd_to l))))
    where
      different : 2 * k ≡ 2 * l + 1 → ⊥
      different e = omega arith

  edges_clear : (k v : ℕ) → k < K.e → v < K.n → Clear K k v
  edges_clear k v l vl on =
      subst (λ u. (v ≡ K.origin (2 * k)) ⊎ (v ≡ u)) (even_to k)
      (G.clear (2 * k) v (even_in k l) vl (subst (λ u. On (place K (K.origin (2 * k))) (place K u) (place K v)) (sym (even_to k)) on))

  pub edge_rule : EdgeRule K
  edge_rule = record { apart = edges_apart; single = edges_single; clear = edges_clear }

-- without an inner face
pub finish_line : (m K : Links) (v : ℕ) → Sound m → v < m.n → suc K.n ≡ m.n → K.e ≤ m.e → 2 ≤ K.n → K.f ≡ 1 → K.n ≡ K.e + 1
    → ((w : ℕ) → w < K.n → place K w ≡ place m (cond (eqb w v) (pred m.n) w))
    → Linked K (λ w. w < K.n) (λ k. k < K.e) (λ g. g < K.f) → Ruled K (λ w. w < K.n) (λ k. k < K.e)
    → ((h w : ℕ) → h / 2 < K.e → w < K.n → K.face h ≡ 0 → S (place K (K.origin h)) (place K (to K h)) (place K w) ≤ℤ pos 0) → Sound K
finish_line m K v sd vl n e n2 f1 euler at J G right =
    let c = counted_after m K sd n e (omega (arith, sd.counted)) (omega arith) in
    let r = all_live_back K n2 c.1 J in
    enough_line K c (placed_after m K v sd vl n at) r.0 r.1 (omega arith) f1 euler (edge_rule K G)
    (λ h w l wl q. right h w (in_edges h K.e l) wl q)
