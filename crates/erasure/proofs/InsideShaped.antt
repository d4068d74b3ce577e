-- The hole of an inner entry, filled with legal edges: its faces, and those around it, are as they must be.
use Rattle.std.proofs.Common.{◌≡◌, ℕ, ◌+◌, ◌-◌, ◌*◌, ◌/◌, ◌<◌, ◌≤◌, Bool, true, false, not, ◌&&◌, ltb, leb, ◌≢◌, ◌⊎◌, pos, ◌≤ℤ◌, ◌<ℤ◌, Decides, sym, refl, ap, ◌∙◌, subst, ap₂, inl, inr, arith}
use mathlib.Core.Path.{subst₃}
use Rattle.std.proofs.lemmas.Bool.{cases_Bool, both_ways, or_parts, or_from, and_cases, and_left, and_right, lt-ltb, leb-false, lt-leb}
use Rattle.plane.specs.Plane.{Pt, pt, S, C}
use Rattle.links.specs.Links.{Links, rev, halves, to, place}
use Rattle.links.specs.Rules.{Sound, corner0, corner1, corner2}
use Rattle.links.proofs.Decide.{never}
use Rattle.planar.specs.Star.{Inner, tip}
use Rattle.planar.proofs.Views.{Ranges, Weave, Triangles, ranges_of, weave_of, triangles_of, circles_of, positive}
use Rattle.planar.proofs.Faces.{triangle}
use Rattle.planar.proofs.Convex.{face_empty}
use Rattle.planar.proofs.Spokes.{places_differ, ends_differ}
use Rattle.delaunay.specs.Ring.{Cyc, Next}
use Rattle.delaunay.proofs.Erased.{erased_inside}
use Rattle.surgery.specs.Linked.{Linked}
use Rattle.surgery.specs.Shaped.{Shaped}
use Rattle.surgery.specs.Sound.{star_of}
use Rattle.surgery.specs.Sweep.{Staying, Others}
use Rattle.surgery.proofs.Sound.{inner_spoked}
use Rattle.erasure.specs.Region.{Inside, label, LawfulIn, Region, Framed}
use Rattle.erasure.specs.Inside.{spokes, dead_edge, inner_hole, AroundHole}
use Rattle.erasure.proofs.Neighbours.{dec_next, with_border}
use Rattle.erasure.proofs.Finish.{in_edges}
use Rattle.erasure.proofs.Removed.{relinked, dec_others, dec_staying}
use Rattle.erasure.proofs.SpokeCount.{half_out, same_edge}

-- of three tests, the second says no
second : (a b c : Bool) → (a && b && not c) ≡ false → a ≡ true → c ≡ false → b ≡ false
second true true true e p q = q
second true true false e p q = e
second true false c e p q = refl
second false b c e p q = never p

module _ (m : Links) (sd : Sound m) (v : ℕ) (vl : v < m.n) (n2 : 2 ≤ m.n) (inn : Inner m v) where
  r3 : Ranges m
  r3 = ranges_of m sd

  r4 : Weave m
  r4 = weave_of m sd

  r5 : Triangles m
  r5 = triangles_of m sd

  abbrev s : ℕ
  s = m.out v

  pub s_in : s < halves m
  s_in = r3.out_in v vl n2

  pub s_from : m.origin s ≡ v
  s_from = r4.out_at v vl n2

  pub s_inner : Inner m (m.origin s)
  s_inner = subst (Inner m) (sym s_from) inn

  -- a half that lies in no face about v
  pub record Beyond (h : ℕ) : Type 0 where
    pub below : h < halves m
    pub clear : star_of m v (m.face h) ≡ false

  -- the faces of halves out of v are about v
  pub starred : (h : ℕ) → h < halves m → m.origin h ≡ v → star_of m v (m.face h) ≡ true
  starred h l e = (inner_spoked m sd v vl inn).0.starred h (in_edges h m.e l) e

  beyond_next : (h : ℕ) → Beyond h → Beyond (m.next h)
  beyond_next h o = record { below = r3.next_names h o.below; clear = ap (star_of m v) (r4.shares h o.below) ∙ o.clear }

  -- its edge does not end at v
  not_from : (h : ℕ) → Beyond h → m.origin h ≢ v
  not_from h o e = both_ways (star_of m v (m.face h)) o.clear (starred h o.below e)

  not_to : (h : ℕ) → Beyond h → to m h ≢ v
  not_to h o e = not_from (m.next h) (beyond_next h o) (sym (r4.joins h o.below) ∙ e)

  beyond_lives : (h : ℕ) → Beyond h → dead_edge m v (h / 2) ≡ false
  beyond_lives h o = elim (cases_Bool (dead_edge m v (h / 2))) [ inl t ↦ absurd (ends (half_out m v (h / 2) t)) | inr f ↦ f ]
    where
      ends : ((g : ℕ) × (g < halves m) × (m.origin g ≡ v) × (g / 2 ≡ h / 2)) → ⊥
      ends x = elim (same_edge x.0 h x.3) [ inl q ↦ not_from h o (ap m.origin (sym q) ∙ x.2) | inr q ↦ not_to h o (ap m.origin (sym q) ∙ x.2) ]

  -- the hole's halves, and those beyond it
  beyond_outside : (h : ℕ) → Beyond h → (inner_hole m v).inside h ≡ false
  beyond_outside h o =
      or_from (ltb h (halves m) && star_of m v (m.face h) && not (dead_edge m v (h / 2))) (leb (halves m) h && ltb h (2 * (m.e + (spokes m v - 3))))
      (and_left (ltb h (halves m) && star_of m v (m.face h)) (not (dead_edge m v (h / 2))) (and_right (ltb h (halves m)) (star_of m v (m.face h)) o.clear))
      (and_left (leb (halves m) h) (ltb h (2 * (m.e + (spokes m v - 3)))) (lt-leb (halves m) h o.below))

  outside_beyond : (h : ℕ) → h / 2 < m.e + (spokes m v - 3) → dead_edge m v (h / 2) ≡ false → (inner_hole m v).inside h ≡ false → Beyond h
  outside_beyond h l d i =
      let p = or_parts (ltb h (halves m) && star_of m v (m.face h) && not (dead_edge m v (h / 2))) (leb (halves m) h && ltb h (2 * (m.e + (spokes m v - 3)))) i in
      let b = low (and_cases (leb (halves m) h) (ltb h (2 * (m.e + (spokes m v - 3)))) p.1) in
      record { below = b; clear = second (ltb h (halves m)) (star_of m v (m.face h)) (dead_edge m v (h / 2)) p.0 (lt-ltb h (halves m) b) d }
    where
      low : (leb (halves m) h ≡ false) ⊎ (ltb h (2 * (m.e + (spokes m v - 3))) ≡ false) → h < halves m
      low (inl f) = leb-false (halves m) h f
      low (inr f) = absurd (both_ways (ltb h (2 * (m.e + (spokes m v - 3)))) f (lt-ltb h (2 * (m.e + (spokes m v - 3))) (omega arith)))

  -- what flips in the hole leave as it is
  pub around_framed : (L L' : Links) → AroundHole m v L → Framed (inner_hole m v) L L' → AroundHole m v L'
  around_framed L L' A G = record {
    ring = A.ring;
    three = A.three;
    n = G.n ∙ A.n;
    e = G.e ∙ A.e;
    f = G.f ∙ A.f;
    x = λ w. G.x w ∙ A.x w;
    y = λ w. G.y w ∙ A.y w;
    next = λ h l d c. G.next h (out h l c) ∙ A.next h l d c;
    face = λ h l d c. G.face h (out h l c) ∙ A.face h l d c;
    origin = λ h l d c. G.origin h (out h l c) ∙ A.origin h l d c;
  }
    where
      out : (h : ℕ) → h < halves m → star_of m v (m.face h) ≡ false → (inner_hole m v).inside h ≡ false
      out h l c = beyond_outside h (record { below = l; clear = c })

  -- the hole is filled, and its edges are legal
  module _ (L : Links) (R : Region (inner_hole m v) L) (A : AroundHole m v L)
      (legal : (h : ℕ) → Inside (inner_hole m v) h → Inside (inner_hole m v) (rev h) → LawfulIn (inner_hole m v) L h) where
    abbrev V : ℕ → Type 0
    V = Others L.n v

    abbrev E : ℕ → Type 0
    E = Staying L.e (dead_edge m v)

    abbrev F : ℕ → Type 0
    F = Staying L.f (star_of m v)

    pub linked : Linked L V E F
    linked = relinked L.e R.below
        (λ w. subst (λ n. Decides ((inner_hole m v).entries w) (Others n v w)) (sym A.n) (dec_others m.n v w))
        (λ k. subst (λ n. Decides ((inner_hole m v).edges k) (Staying n (dead_edge m v) k)) (sym A.e) (dec_staying (m.e + (spokes m v - 3)) (dead_edge m v) k))
        (λ g. subst (λ n. Decides ((inner_hole m v).faces g) (Staying n (star_of m v) g)) (sym A.f) (dec_staying (m.f + (spokes m v - 2)) (star_of m v) g))
        R.linked

    -- ---- places
    pub place_same : (w : ℕ) → place L w ≡ place m w
    place_same w = ap₂ (λ x y. pt (pos x) (pos y)) (A.x w) (A.y w)

    -- ---- beyond the hole
    next_same : (h : ℕ) → Beyond h → L.next h ≡ m.next h
    next_same h o = A.next h o.below (beyond_lives h o) o.clear

    face_same : (h : ℕ) → Beyond h → L.face h ≡ m.face h
    face_same h o = A.face h o.below (beyond_lives h o) o.clear

    origin_same : (h : ℕ) → Beyond h → L.origin h ≡ m.origin h
    origin_same h o = A.origin h o.below (beyond_lives h o) o.clear

    next2_same : (h : ℕ) → Beyond h → L.next (L.next h) ≡ m.next (m.next h)
    next2_same h o = ap L.next (next_same h o) ∙ next_same (m.next h) (beyond_next h o)

    at_same : (h : ℕ) → Beyond h → place L (L.origin h) ≡ place m (m.origin h)
    at_same h o = place_same (L.origin h) ∙ ap (place m) (origin_same h o)

    to_same : (h : ℕ) → E (h / 2) → Beyond h → to L h ≡ to m h
    to_same h l o = sym (linked.to_next h l) ∙ ap L.origin (next_same h o) ∙ origin_same (m.next h) (beyond_next h o) ∙ sym (r4.joins h o.below)

    corners_same : (T : Pt → Pt → Pt → Type 0) (h : ℕ) → Beyond h → T (corner0 m h) (corner1 m h) (corner2 m h) → T (corner0 L h) (corner1 L h) (corner2 L h)
    corners_same T h o t =
        let o1 = beyond_next h o in
        subst₃ T (sym (at_same h o)) (sym (ap (λ x. place L (L.origin x)) (next_same h o) ∙ at_same (m.next h) o1))
        (sym (ap (λ x. place L (L.origin x)) (next2_same h o) ∙ at_same (m.next (m.next h)) (beyond_next (m.next h) o1))) t

    -- ---- in the hole
    stays : (h : ℕ) → Inside (inner_hole m v) h → Inside (inner_hole m v) (L.next h)
    stays = R.mesh.stays

    corners_in : (T : Pt → Pt → Pt → Type 0) (h : ℕ) → Inside (inner_hole m v) h
        → T (tip m s (label (inner_hole m v) L h)) (tip m s (label (inner_hole m v) L (L.next h))) (tip m s (label (inner_hole m v) L (L.next (L.next h))))
        → T (corner0 L h) (corner1 L h) (corner2 L h)
    corners_in T h i t = subst₃ T (sym (R.at h i)) (sym (R.at (L.next h) (stays h i))) (sym (R.at (L.next (L.next h)) (stays (L.next h) (stays h i)))) t

    -- its faces turn left and hold no entry
    new_faces : (h : ℕ) → Inside (inner_hole m v) h → (pos 0 <ℤ S (corner0 L h) (corner1 L h) (corner2 L h)) × ((w : ℕ) → w < m.n → w ≢ v → C (corner0 L h) (corner1 L h) (corner2 L h) (place m w) ≤ℤ pos 0)
    new_faces h i =
        let H = inner_hole m v in
        let f = erased_inside m sd s s_in s_inner (spokes m v) A.ring H.inside L.next rev (label H L)
        (with_border (Inside H) L.next rev (label H L) (spokes m v) (λ a b. H.border a b ≡ true) (Next (spokes m v)) (λ a b. (dec_next (spokes m v) a b).0) R.mesh) legal h i in
        (corners_in (λ a b c. pos 0 <ℤ S a b c) h i f.0, λ w l d. corners_in (λ a b c. C a b c (place m w) ≤ℤ pos 0) h i (f.1 w l (λ e. d (e ∙ s_from))))

    -- a half and its next differ
    moves : (h : ℕ) → Inside (inner_hole m v) h → L.next h ≢ h
    moves h i q = differ _ _ _ _ (R.mesh.order h i) (ap (label (inner_hole m v) L) q)
      where
        differ : (k a b c : ℕ) → Cyc k a b c → b ≡ a → ⊥
        differ k a b c y e = omega arith

    -- ---- a live half is in the hole, or beyond it
    by_place : (T : Type 0) (h : ℕ) → E (h / 2) → (Inside (inner_hole m v) h → T) → (Beyond h → T) → T
    by_place T h l inside beyond = elim (cases_Bool ((inner_hole m v).inside h)) [ inl i ↦ inside i | inr i ↦ beyond (outside_beyond h (subst (λ k. h / 2 < k) A.e l.0) l.1 i) ]

    -- an outer half is beyond it
    outer_beyond : (h : ℕ) → E (h / 2) → L.face h ≡ 0 → Beyond h
    outer_beyond h l q = by_place (Beyond h) h l (λ i. absurd (R.inner h i q)) (λ o. o)

    inner_before : (h : ℕ) → Beyond h → L.face h ≢ 0 → 0 < m.face h
    inner_before h o n = positive (m.face h) (λ q. n (face_same h o ∙ q))

    entry_in : (w : ℕ) → V w → w < m.n
    entry_in w l = subst (λ n. w < n) A.n l.0

    pub shaped : Shaped L V E
    shaped = record {
      three = λ h l n. by_place _ h l
          (λ i. (moves h i, R.mesh.three h i))
          (λ o. let t = triangle m r3 r4 r5 h o.below (inner_before h o n) in (
            (λ q. t.moves (sym (next_same h o) ∙ q)),
            ap L.next (next2_same h o) ∙ next_same (m.next (m.next h)) (beyond_next (m.next h) (beyond_next h o)) ∙ t.closes,
          ));
      left = λ h l n. by_place _ h l (λ i. (new_faces h i).0)
          (λ o. corners_same (λ a b c. pos 0 <ℤ S a b c) h o (triangle m r3 r4 r5 h o.below (inner_before h o n)).turns);
      empty = λ h w l lw n. subst (λ p. C (corner0 L h) (corner1 L h) (corner2 L h) p ≤ℤ pos 0) (sym (place_same w)) (by_place _ h l
          (λ i. (new_faces h i).1 w (entry_in w lw) lw.1)
          (λ o. corners_same (λ a b c. C a b c (place m w) ≤ℤ pos 0) h o (face_empty m r3 r4 r5 (circles_of m sd) h w o.below (inner_before h o n) (entry_in w lw))));
      right = λ h w l lw q.
          let o = outer_beyond h l q in
          subst₃ (λ a b c. S a b c ≤ℤ pos 0) (sym (at_same h o)) (sym (place_same (to L h) ∙ ap (place m) (to_same h l o))) (sym (place_same w))
          (sd.hulled h w o.below (entry_in w lw) (sym (face_same h o) ∙ q));
      places = λ u w lu lw q. places_differ m sd u w (entry_in u lu) (entry_in w lw) (sym (place_same u) ∙ q ∙ place_same w);
      only = λ h k lh lk fh fk o t.
          let a = outer_beyond h lh fh in
          let b = outer_beyond k lk fk in
          ends_differ m sd h k a.below b.below (sym (origin_same h a) ∙ o ∙ origin_same k b) (sym (to_same h lh a) ∙ t ∙ to_same k lk b);
    }
