-- The hole of an entry inside, filled with a fan.
use Rattle.std.proofs.Common.{◌≡◌, ℕ, zero, suc, ◌+◌, ◌-◌, ◌*◌, ◌/◌, ◌^◌, ◌<◌, ◌≤◌, true, false, ltb, ◌≢◌, ◌⊎◌, ℤ, pos, nat_abs, ◌≤ℤ◌, Decides, sym, ap, ◌∙◌, subst, inl, inr, arith, ltb-false, le-ltb, ne_eqb}
use borrow.Author.Differences.{ints}
use Rattle.std.proofs.lemmas.Bool.{cases_eq, cases_lt, both_ways, cond-false}
use Rattle.plane.specs.Plane.{pt, C}
use Rattle.plane.proofs.Bounds.{circle_small}
use Rattle.links.specs.Links.{Links, rev, halves, to, place}
use Rattle.links.specs.Rules.{Sound}
use Rattle.links.proofs.Halves.{rev_below}
use Rattle.links.proofs.Decide.{dec_eq, dec_nat_lt, dec_nat_le, dec_and, dec_and3, dec_or, dec_not, never}
use Rattle.planar.specs.Star.{spoke, tip, Inner}
use Rattle.planar.proofs.Views.{ranges_of, weave_of}
use Rattle.planar.proofs.Weight.{small_place}
use Rattle.delaunay.specs.Star.{Star}
use Rattle.delaunay.proofs.Star.{round_cyc}
use Rattle.delaunay.proofs.Erased.{inner_star}
use Rattle.surgery.specs.Sound.{star_of}
use Rattle.surgery.specs.Theorems.{On}
use Rattle.surgery.proofs.Roots.{Unrooted, root}
use Rattle.surgery.proofs.Sound.{inner_spoked}
use Rattle.erasure.specs.Spokes.{border}
use Rattle.erasure.specs.Detach.{detach}
use Rattle.erasure.specs.Fill.{remesh, last_triangle, new_edges}
use Rattle.erasure.specs.Legalize.{contains}
use Rattle.erasure.specs.Region.{Hole, Inside, Region, Listed, Fenced, Voluminous}
use Rattle.erasure.specs.Erased.{filled}
use Rattle.erasure.specs.Inside.{dead_edge, spokes, inner_hole, AroundHole, Fills}
use Rattle.erasure.proofs.Alike.{Alive, Alike, alike}
use Rattle.erasure.proofs.Ears.{last_unrooted}
use Rattle.erasure.proofs.Fanned.{Holed, Rim, Fanned, top, Within, none_cut, all_cut, top_live}
use Rattle.erasure.proofs.FanMesh.{fan_mesh, starts}
use Rattle.erasure.proofs.InnerCut.{dec_self}
use Rattle.erasure.proofs.InnerCut as I

-- the new edges are those from e on
pub listed_new : (e j x : ℕ) → Decides (contains (new_edges e j) x) ((e ≤ x) × (x < e + j))
listed_new e zero x = ((λ q. never q), λ l. absurd (omega arith))
listed_new e (suc j) x =
    let d = dec_or (dec_eq (e + j) x) (listed_new e j x) in (
      (λ q. elim (d.0 q) [ inl p ↦ (omega arith, omega arith) | inr (p, l) ↦ (omega arith, omega arith) ]),
      λ l. d.1 (elim (cases_eq (e + j) x) [ inl p ↦ inl p | inr n ↦ inr (l.0, (let r = l.1 in omega arith)) ]),
    )

module _ (m : Links) (sd : Sound m) (f1 : 1 < m.f) (v : ℕ) (vl : v < m.n) (inn : Inner m v) where
  abbrev k : ℕ
  k = spokes m v

  abbrev H : Hole
  H = inner_hole m v

  abbrev b : ℕ → ℕ
  b a = m.next (spoke m (m.out v) a)

  abbrev c : ℕ → ℕ
  c a = to m (spoke m (m.out v) a)

  abbrev hole : ℕ
  hole = m.f + (k - 3)

  abbrev D : Links
  D = detach m v hole (border m (m.out v) k) (m.next (m.out v))

  abbrev V : ℕ → Type 0
  V = Alive m.n (λ w. w ≡ v)

  abbrev Dead : ℕ → Type 0
  Dead x = dead_edge m v x ≡ true

  abbrev About : ℕ → Type 0
  About g = star_of m v g ≡ true

  rim : Rim D V Dead About k hole b c
  rim = I.rim m sd f1 v vl inn

  three : 3 ≤ k
  three = I.three m sd f1 v vl inn

  -- the links after all ears, but for the last triangle's roots
  ears : (K : Links) × Fanned D V Dead About k hole b c (k - 3) K × (remesh (k - 3) D (top D b 0) ≡ last_triangle K (top D b (k - 3)))
  ears = all_cut D V Dead About k hole b c rim (k - 3) 0 D (omega arith) (none_cut D V Dead About k hole b c rim)

  -- so is the filling
  filled_is : filled m v ≡ last_triangle ears.0 (top D b (k - 3))
  unfolding top
  filled_is = ears.2

  -- ---- the halves of the hole
  inside_is : (h : ℕ) → Decides (H.inside h) (((h < halves m) × About (m.face h) × ¬ (Dead (h / 2))) ⊎ ((halves m ≤ h) × (h < 2 * (m.e + (k - 3)))))
  inside_is h = dec_or (dec_and3 (dec_nat_lt h (halves m)) (dec_self (star_of m v (m.face h))) (dec_not (dec_self (dead_edge m v (h / 2)))))
      (dec_and (dec_nat_le (halves m) h) (dec_nat_lt h (2 * (m.e + (k - 3)))))

  -- the border halves, and those of the new edges
  within : Alike (Within D b k (k - 3)) (Inside H)
  unfolding detach
  within h = (
    (λ w. (inside_is h).1 (elim w [
      | inl (a, l, q) ↦ inl (subst (λ h. (h < halves m) × About (m.face h) × ¬ (Dead (h / 2))) (sym q) (I.b_in m sd f1 v vl inn a, I.b_star m sd f1 v vl inn a, (I.b_live m sd f1 v vl inn a).1))
      | inr x ↦ inr x
    ])),
    λ e. elim ((inside_is h).0 e) [ inl (l, s, d) ↦ inl (I.on_rim m sd f1 v vl inn h l s d) | inr x ↦ inr x ],
  )

  -- an edge with both its halves in the hole is new
  new_edge : (h : ℕ) → Inside H h → Inside H (rev h) → (m.e ≤ h / 2) × (h / 2 < m.e + (k - 3))
  new_edge h p q = go ((inside_is h).0 p) ((inside_is (rev h)).0 q)
    where
      go : ((h < halves m) × About (m.face h) × ¬ (Dead (h / 2))) ⊎ ((halves m ≤ h) × (h < 2 * (m.e + (k - 3))))
          → ((rev h < halves m) × About (m.face (rev h)) × ¬ (Dead (rev h / 2))) ⊎ ((halves m ≤ rev h) × (rev h < 2 * (m.e + (k - 3))))
          → (m.e ≤ h / 2) × (h / 2 < m.e + (k - 3))
      go (inr (l, g)) y = (omega arith, omega arith)
      go (inl (l, s, d)) (inr (l', g)) = absurd (let x = rev_below m.e h l in omega arith)
      go (inl (l, s, d)) (inl (l', s', d')) =
          let o = I.off m sd f1 v vl inn h (I.edge_in m sd f1 v vl inn h l, d) in
          absurd ((inner_spoked m sd v vl inn).1 h (I.edge_in m sd f1 v vl inn h l) o.0 o.1 s s')

  -- ---- what lives
  -- all entries but v
  entries : Alike V (On H.entries)
  entries w = let d = dec_and (dec_nat_lt w m.n) (dec_not (dec_eq w v)) in (d.1, d.0)

  -- edges that do not end at v
  edges_are : (x : ℕ) → Decides (H.edges x) (Alive (m.e + (k - 3)) Dead x)
  edges_are x = dec_and (dec_nat_lt x (m.e + (k - 3))) (dec_not (dec_self (dead_edge m v x)))

  -- faces that are not about v
  faces_are : (g : ℕ) → Decides (H.faces g) (Alive (m.f + (k - 2)) About g)
  faces_are g = dec_and (dec_nat_lt g (m.f + (k - 2))) (dec_not (dec_self (star_of m v g)))

  -- the hole is the last of the new faces
  faces : Alike (Holed hole About hole) (On H.faces)
  unfolding detach
  faces g = let t = three in (
    (λ w. (faces_are g).1 (elim w [ inl (l, d) ↦ (omega arith, d) | inr q ↦ (omega arith, λ d. let x = rim.star_low g d in omega arith) ])),
    λ e. let w = (faces_are g).0 e in elim (cases_lt g hole) [ inl l ↦ inl (l, w.1) | inr l ↦ inr (let u = w.0 in omega arith) ],
  )

  -- ---- the links after
  abbrev K : Links
  K = ears.0

  abbrev L : Links
  L = last_triangle K (top D b (k - 3))

  F : Fanned D V Dead About k hole b c (k - 3) K
  F = ears.1

  counted_e : K.e ≡ m.e + (k - 3)
  unfolding detach
  counted_e = F.e

  counted_f : K.f ≡ hole
  unfolding detach
  counted_f = F.f

  -- the link rules
  linked : Unrooted L (On H.entries) (On H.edges) (On H.faces)
  unfolding detach
  linked = alike L V (On H.entries) (Alive (m.e + (k - 3)) Dead) (On H.edges) (Holed hole About hole) (On H.faces)
      entries (λ x. ((edges_are x).1, (edges_are x).0)) faces
      (last_unrooted K V (Alive (m.e + (k - 3)) Dead) (Holed hole About hole) (top D b (k - 3)) (top_live D V Dead About k hole b c rim (k - 3) (k - 3) (omega arith))
      (subst (λ f. Unrooted K V (Alive (m.e + (k - 3)) Dead) (Holed f About hole)) counted_f (subst (λ e. Unrooted K V (Alive e Dead) (Holed K.f About hole)) counted_e F.linked)))

  -- places stay
  placed : (w : ℕ) → place L w ≡ place m w
  unfolding last_triangle detach
  placed w = λ i. pt (pos (F.x w i)) (pos (F.y w i))

  -- a half in the hole is no half of a spoke
  lives : (h : ℕ) → Inside H h → On H.edges (h / 2)
  unfolding detach
  lives h l = (edges_are (h / 2)).1 (elim ((inside_is h).0 l) [ inl (p, s, d) ↦ (omega arith, d) | inr (p, q) ↦ (omega arith, λ d. let x = rim.dead_low (h / 2) d in omega arith) ])

  -- the hole has faces on its ring
  region : Region H L
  unfolding last_triangle
  region = record {
    linked = root L (On H.entries) (On H.edges) (On H.faces) linked;
    below = λ x l. let q = ((edges_are x).0 l).0 in let e = counted_e in omega arith;
    face_below = λ g l. let q = ((faces_are g).0 l).0 in let e = counted_f in omega arith;
    live = lives;
    inner = λ h l. F.inner h ((within h).1 l);
    mesh = fan_mesh D V Dead About k hole b c rim K F (Inside H) within;
    at = λ h l. placed (K.origin h) ∙ ap (place m) (starts D V Dead About k hole b c rim K F h ((within h).1 l));
    left = λ e. never e;
  }

  -- ---- the list of the new edges
  listed : Listed H L (new_edges m.e (k - 3))
  listed = record {
    legal = λ h p q. inl ((listed_new m.e (k - 3) (h / 2)).1 (new_edge h p q));
    sided = λ x e. let l = (listed_new m.e (k - 3) x).0 e in inl ((inside_is (2 * x)).1 (inr ((let p = l.0 in omega arith), (let q = l.1 in omega arith))));
  }

  -- the border has old edges alone
  fenced : Fenced H L (λ x. ltb x m.e)
  unfolding rev
  fenced = record {
    border = λ L' _ _ h l out e. absurd (both_ways (H.inside (rev h)) out ((inside_is (rev h)).1 (inr (other h ((inside_is h).0 l) (ltb-false (h / 2) m.e e)))));
    free = λ h p q. le-ltb (h / 2) m.e (new_edge h p q).0;
  }
    where
      other : (h : ℕ) → ((h < halves m) × About (m.face h) × ¬ (Dead (h / 2))) ⊎ ((halves m ≤ h) × (h < 2 * (m.e + (k - 3)))) → m.e ≤ h / 2 → (halves m ≤ rev h) × (rev h < 2 * (m.e + (k - 3)))
      other h (inl (l, s, d)) p = absurd (omega arith)
      other h (inr (l, q)) p = (omega arith, omega arith)

  -- ---- volumes
  -- they are those of a star on the grid
  voluminous : Voluminous H
  voluminous = record {
    low = λ x y z t. subst (λ w. pos 0 ≤ℤ C (H.p x) (H.p y) (H.p z) (place m w)) (I.s_from m sd f1 v vl inn)
        (round_cyc (place m (m.origin (m.out v))) (tip m (m.out v)) k star x y z t);
    high = λ x y z t. under (C (H.p x) (H.p y) (H.p z) (place m v)) (2 ^ 60)
        (circle_small (H.p x) (H.p y) (H.p z) (place m v) (star.small x (omega arith)) (star.small y (omega arith)) (star.small z (omega arith)) (small_place m v (sd.placed v vl)));
  }
    where
      star : Star (place m (m.origin (m.out v))) (tip m (m.out v)) k
      star = inner_star m sd (m.out v) (I.s_in m sd f1 v vl inn) (I.inner_at m sd f1 v vl inn) k (I.ring m sd f1 v vl inn)

      under : (z : ℤ) (n : ℕ) → nat_abs z < n → z ≤ℤ pos n
      under z n l = omega (arith, ints)

  -- ---- what is around the hole stays
  -- a half of a face that is not about v
  module _ (h : ℕ) (l : h < halves m) (s : star_of m v (m.face h) ≡ false) where
    no_rim : (a : ℕ) → a < k → h ≢ b a
    no_rim a _ q = both_ways (star_of m v (m.face h)) s (ap (λ h. star_of m v (m.face h)) q ∙ I.b_star m sd f1 v vl inn a)

    next_kept : K.next h ≡ m.next h
    unfolding detach
    next_kept =
        let n = (ranges_of m sd).next_names h l in
        F.next_else h l no_rim ∙ cond-false _ _ _ (ne_eqb (to m (m.next h)) v
        (I.off m sd f1 v vl inn (m.next h) (I.beside m sd f1 v vl inn (m.next h) n (λ e. both_ways (star_of m v (m.face h)) s (ap (star_of m v) (sym ((weave_of m sd).shares h l)) ∙ e)))).1)

    face_kept : K.face h ≡ m.face h
    unfolding detach
    face_kept = F.face_else h l no_rim ∙ cond-false _ _ _ s

    origin_kept : K.origin h ≡ m.origin h
    unfolding detach
    origin_kept = F.origin_else h l no_rim

  -- so do the halves around it
  framed : AroundHole m v L
  unfolding last_triangle detach
  framed = record {
    ring = I.ring m sd f1 v vl inn;
    three = three;
    n = F.n;
    e = counted_e;
    f = (let q = counted_f in let t = three in omega arith);
    x = F.x;
    y = F.y;
    next = λ h l _ s. next_kept h l s;
    face = λ h l _ s. face_kept h l s;
    origin = λ h l _ s. origin_kept h l s;
  }

pub fills : Fills
fills m sd f1 v vl inn =
    subst (λ L. Region (inner_hole m v) L × Listed (inner_hole m v) L (new_edges m.e (spokes m v - 3)) × Fenced (inner_hole m v) L (λ x. ltb x m.e) × Voluminous (inner_hole m v) × AroundHole m v L)
    (sym (filled_is m sd f1 v vl inn))
    (region m sd f1 v vl inn, listed m sd f1 v vl inn, fenced m sd f1 v vl inn, voluminous m sd f1 v vl inn, framed m sd f1 v vl inn)
