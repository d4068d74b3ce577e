-- A triangulation with legal edges is Delaunay: from a face whose circle holds an entry, walk toward the entry.
use Rattle.std.proofs.Common.{◌≡◌, ℕ, zero, suc, ◌+◌, ◌<◌, ◌≤◌, Bool, ◌⊎◌, [], ◌∷◌, ℤ, pos, ◌+ℤ◌, ◌-ℤ◌, neg_ℤ, ◌≤ℤ◌, ◌<ℤ◌, sym, refl, ap, ◌∙◌, subst, ap₂, inl, inr, arith}
use native.Mathlib.Decide.{ℕ_discrete}
use borrow.Author.Differences.{ints}
use Rattle.zring.proofs.Ring.{◌⊹◌, ◌⊖◌, ◌⊛◌, ring}
use Rattle.zring.proofs.Signs.{pos_or, ≥-or, sign-≥, clash, clash-<, weaken, zero-≥, both_zero, neg->, neg-<, zero_clash, one-≥}
use Rattle.plane.specs.Plane.{Pt, pt, S, C}
use Rattle.plane.proofs.Sym.{X, Y, SE, coords}
use Rattle.plane.proofs.Sides.{S-cyc, S-swap, S-split}
use Rattle.plane.proofs.Circles.{C-rot, C-on}
use Rattle.links.specs.Links.{Links, rev, halves, to, ccw, place}
use Rattle.links.proofs.Halves.{rev_rev, rev_below}
use Rattle.planar.specs.Parts.{Long}
use Rattle.planar.specs.Planarity.{Sector}
use Rattle.planar.proofs.Views.{Ranges, Weave, Triangles, Outside, ranges, weave, triangles, outside, positive, ranges_of, weave_of, triangles_of, circles_of}
use Rattle.planar.proofs.Terms.{S-first, S-last, S-twice, S-back}
use Rattle.planar.proofs.Turning.{no_ray}
use Rattle.planar.proofs.Count.{count}
use Rattle.planar.proofs.Within.{count_in, count_side, other_side}
use Rattle.planar.proofs.Faces.{Among, around, triangle, to_in}
use Rattle.planar.proofs.Planarity.{face_count, corners, one_face, sector_count}
use Rattle.planar.proofs.Spokes.{flat}
use Rattle.planar.proofs.Rings.{ccw_in, ccw_origin}
use Rattle.planar.proofs.Ends.{parts, own_sector}
use Rattle.delaunay.specs.Legal.{LegalEdges, LegalIsEmpty, SoundIsLegal}
use Rattle.delaunay.proofs.Wedge.{tally, tally_few, tally_more, still_inside, left_of_db, left_of_ad, wedge, wedge_in, wedge_out, wider_ad, wider_db}
use Rattle.planar.proofs.Convex.{face_empty}

-- ---- a direction between those of p and q
abbrev mid : Pt → Pt → Pt → Pt
mid o p q = pt (p.x +ℤ q.x -ℤ o.x) (p.y +ℤ q.y -ℤ o.y)

mid_first : (o p q : Pt) → S o p (mid o p q) ≡ S o p q
unfolding S
mid_first o p q =
    ring ((X 1 ⊖ X 0) ⊛ ((Y 1 ⊹ Y 2 ⊖ Y 0) ⊖ Y 0) ⊖ (Y 1 ⊖ Y 0) ⊛ ((X 1 ⊹ X 2 ⊖ X 0) ⊖ X 0)) (SE 0 1 2) (coords (o ∷ p ∷ q ∷ [])) tt

mid_second : (o p q : Pt) → S o (mid o p q) q ≡ S o p q
unfolding S
mid_second o p q =
    ring (((X 1 ⊹ X 2 ⊖ X 0) ⊖ X 0) ⊛ (Y 2 ⊖ Y 0) ⊖ ((Y 1 ⊹ Y 2 ⊖ Y 0) ⊖ Y 0) ⊛ (X 2 ⊖ X 0)) (SE 0 1 2) (coords (o ∷ p ∷ q ∷ [])) tt

mid_side : (a b o p q : Pt) → S a b (mid o p q) ≡ S a b p +ℤ S a b q -ℤ S a b o
unfolding S
mid_side a b o p q =
    ring ((X 1 ⊖ X 0) ⊛ ((Y 3 ⊹ Y 4 ⊖ Y 2) ⊖ Y 0) ⊖ (Y 1 ⊖ Y 0) ⊛ ((X 3 ⊹ X 4 ⊖ X 2) ⊖ X 0)) (SE 0 1 3 ⊹ SE 0 1 4 ⊖ SE 0 1 2) (coords (a ∷ b ∷ o ∷ p ∷ q ∷ [])) tt

module _ (m : Links) (r3 : Ranges m) (r4 : Weave m) (r5 : Triangles m) (u : Outside m) (long : Long m) (legal : LegalEdges m) where
  abbrev at : ℕ → Pt
  at v = place m v

  -- a half of an inner face and the three corners of it
  record Face (x a b c : ℕ) : Type 0 where
    inside : x < halves m
    inner : 0 < m.face x
    from : m.origin x ≡ a
    goes : to m x ≡ b
    far : m.origin (m.next (m.next x)) ≡ c
    left : pos 0 <ℤ S (at a) (at b) (at c)

  face_of_half : (x : ℕ) → x < halves m → 0 < m.face x → Face x (m.origin x) (to m x) (m.origin (m.next (m.next x)))
  face_of_half x l f = record {
    inside = l;
    inner = f;
    from = refl;
    goes = refl;
    far = refl;
    left = subst (λ v. pos 0 <ℤ S (at (m.origin x)) (at v) (at (m.origin (m.next (m.next x))))) (sym (r4.joins x l)) (triangle m r3 r4 r5 x l f).turns;
  }

  turn : (x a b c : ℕ) → Face x a b c → Face (m.next x) b c a
  turn x a b c f =
      let n = r3.next_names x f.inside in
      record {
        inside = n;
        inner = subst (λ k. 0 < k) (sym (r4.shares x f.inside)) f.inner;
        from = sym (r4.joins x f.inside) ∙ f.goes;
        goes = r4.joins (m.next x) n ∙ f.far;
        far = ap m.origin (triangle m r3 r4 r5 x f.inside f.inner).closes ∙ f.from;
        left = subst (λ z. pos 0 <ℤ z) (S-cyc (at a) (at b) (at c)) f.left;
      }

  -- over the edge: an outer half, with all entries on its right, or the other inner face
  Over : ℕ → ℕ → ℕ → ℕ → Type 0
  Over x a b c = ((v : ℕ) → v < m.n → S (at b) (at a) (at v) ≤ℤ pos 0) ⊎ ((d : ℕ) × Face (rev x) b a d × (C (at a) (at b) (at c) (at d) ≤ℤ pos 0))

  over : (x a b c : ℕ) → Face x a b c → Over x a b c
  unfolding Over
  over x a b c f = go (ℕ_discrete (m.face (rev x)) 0)
    where
      tl : rev x < halves m
      tl = rev_below m.e x f.inside

      back : to m (rev x) ≡ a
      back = ap m.origin (rev_rev x) ∙ f.from

      d : ℕ
      d = m.origin (m.next (m.next (rev x)))

      not_zero : (k : ℕ) → 0 < k → ¬ (k ≡ 0)
      not_zero k p e = omega arith

      go : Dec (m.face (rev x) ≡ 0) → ((v : ℕ) → v < m.n → S (at b) (at a) (at v) ≤ℤ pos 0) ⊎ ((d : ℕ) × Face (rev x) b a d × (C (at a) (at b) (at c) (at d) ≤ℤ pos 0))
      go (yes z) = inl (λ v l. subst (λ i. S (at b) (at i) (at v) ≤ℤ pos 0) back (subst (λ i. S (at i) (at (to m (rev x))) (at v) ≤ℤ pos 0) f.goes (u.right (rev x) v tl z l)))
      go (no z) =
          let g = face_of_half (rev x) tl (positive (m.face (rev x)) z) in
          let y = legal x f.inside (not_zero (m.face x) f.inner) z in
          inr (
            d,
            record {
              inside = g.inside;
              inner = g.inner;
              from = f.goes;
              goes = back;
              far = refl;
              left = subst (λ i. pos 0 <ℤ S (at b) (at i) (at d)) back (subst (λ i. pos 0 <ℤ S (at i) (at (to m (rev x))) (at d)) f.goes g.left);
            },
            subst (λ i. C (at i) (at b) (at c) (at d) ≤ℤ pos 0) f.from
                (subst (λ i. C (at (m.origin x)) (at i) (at c) (at d) ≤ℤ pos 0) (sym (r4.joins x f.inside) ∙ f.goes)
                (subst (λ i. C (at (m.origin x)) (at (m.origin (m.next x))) (at i) (at d) ≤ℤ pos 0) f.far y)),
          )

  far_in : {x a b : ℕ} (d : ℕ) → Face x a b d → d < m.n
  far_in {x} {a} {b} d f =
      subst (λ v. v < m.n) f.far (r3.origin_names (m.next (m.next x)) (r3.next_names (m.next x) (r3.next_names x f.inside)))

  -- ---- an entry w, and a half g out of it with an inner face on its left
  module _ (f1 : 1 < m.f) (w : ℕ) (wl : w < m.n) where
    abbrev o : Pt
    o = at w

    own : 2 ≤ m.n → (g : ℕ) × (g < halves m) × (m.origin g ≡ w) × (0 < m.face g)
    own n2 = go (ℕ_discrete (m.face h) 0)
      where
        h : ℕ
        h = m.out w

        hl : h < halves m
        hl = r3.out_in w wl n2

        pl : m.prev h < halves m
        pl = r3.prev_names h hl

        go : Dec (m.face h ≡ 0) → (g : ℕ) × (g < halves m) × (m.origin g ≡ w) × (0 < m.face g)
        go (no d) = (h, hl, r4.out_at w wl n2, positive (m.face h) d)
        go (yes e) = (
          ccw m h,
          ccw_in m r3 r4 h hl,
          ccw_origin m r3 r4 h hl ∙ r4.out_at w wl n2,
          positive (m.face (ccw m h)) (λ z. parts m r3 r4 r5 u.right long f1 (m.prev h) pl (sym (r4.shares (m.prev h) pl) ∙ ap m.face (r4.undone h hl).1 ∙ e ∙ sym z)),
        )

    module _ (g : ℕ) (gl : g < halves m) (ge : m.origin g ≡ w) (gf : 0 < m.face g) where
      abbrev p : Pt
      p = at (to m g)

      abbrev q : Pt
      q = at (to m (ccw m g))

      wide : pos 0 <ℤ S o p q
      wide = subst (λ v. pos 0 <ℤ S (at v) p q) ge (own_sector m r3 r4 r5 u g gl gf).until

      -- a face that goes around w in a direction of the sector of g has w as a corner
      meets : (x a b c : ℕ) (t : Pt) → Face x a b c → Sector m g t → pos 1 ≤ℤ (count o t (at a) (at b) +ℤ count o t (at b) (at c) +ℤ count o t (at c) (at a)) → (a ≡ w) ⊎ ((b ≡ w) ⊎ (c ≡ w))
      unfolding Among
      meets x a b c t f s h =
          corner (around m r3 r4 r5 x g f.inside gl f.inner
          (sym (one_face m r3 r4 r5 u o t x g f.inside gl f.inner gf (subst (λ z. pos 1 ≤ℤ z) (sym counted) h)
          (one-≥ (face_count m r3 r4 r5 u o t (m.face g)) (subst (λ v. face_count m r3 r4 r5 u (at v) t (m.face g) ≡ pos 1) ge (sector_count m r3 r4 r5 u g t gl gf s))))))
        where
          second : m.origin (m.next x) ≡ b
          second = sym (r4.joins x f.inside) ∙ f.goes

          counted : face_count m r3 r4 r5 u o t (m.face x) ≡ count o t (at a) (at b) +ℤ count o t (at b) (at c) +ℤ count o t (at c) (at a)
          counted =
              corners m r3 r4 r5 u o t x f.inside f.inner
              ∙ ap₂ ◌+ℤ◌ (ap₂ ◌+ℤ◌ (ap₂ (λ i j. count o t (at i) (at j)) f.from second) (ap₂ (λ i j. count o t (at i) (at j)) second f.far))
              (ap₂ (λ i j. count o t (at i) (at j)) f.far f.from)

          corner : Among m x g → (a ≡ w) ⊎ ((b ≡ w) ⊎ (c ≡ w))
          corner (inl e) = inl (sym f.from ∙ ap m.origin e ∙ ge)
          corner (inr (inl e)) = inr (inl (sym second ∙ ap m.origin e ∙ ge))
          corner (inr (inr e)) = inr (inr (sym f.far ∙ ap m.origin e ∙ ge))

      -- ---- no face has w in it, or on a side of it, but for its corners
      not_in : (x a b c : ℕ) → Face x a b c → pos 0 <ℤ S (at a) (at b) o → pos 0 <ℤ S (at b) (at c) o → pos 0 <ℤ S (at c) (at a) o → ⊥
      not_in x a b c f hc ha hb =
          elim (meets x a b c p f (own_sector m r3 r4 r5 u g gl gf) (count_in o p (at a) (at b) (at c) hc ha hb (λ e. long g gl (ap at ge ∙ sym e)))) [
            | inl e ↦ zero_clash (S (at a) (at b) o) (ap (λ v. S (at a) (at b) (at v)) (sym e) ∙ S-first (at a) (at b)) hc
            | inr (inl e) ↦ zero_clash (S (at a) (at b) o) (ap (λ v. S (at a) (at b) (at v)) (sym e) ∙ S-last (at a) (at b)) hc
            | inr (inr e) ↦ zero_clash (S (at b) (at c) o) (ap (λ v. S (at b) (at c) (at v)) (sym e) ∙ S-last (at b) (at c)) ha
          ]

      -- a direction of the sector of g that is not along the line a b
      Aside : Pt → Pt → Type 0
      Aside a b = (t : Pt) × Sector m g t × ((pos 0 <ℤ S a b t) ⊎ (S a b t <ℤ pos 0)) × (S b a p ≤ℤ pos 0 → S b a q ≤ℤ pos 0 → S b a t ≤ℤ pos 0)

      aside : (a b : Pt) → ¬ (b ≡ a) → S a b o ≡ pos 0 → Aside a b
      unfolding Aside
      aside a b n e = first (pos_or (S a b p)) (≥-or (S a b p))
        where
          middle : Sector m g (mid o p q)
          middle = record {
            since = subst (λ v. pos 0 ≤ℤ S (at v) p (mid o p q)) (sym ge) (subst (λ z. pos 0 ≤ℤ z) (sym (mid_first o p q)) (weaken (pos 0) (S o p q) wide));
            until = subst (λ v. pos 0 <ℤ S (at v) (mid o p q) q) (sym ge) (subst (λ z. pos 0 <ℤ z) (sym (mid_second o p q)) wide);
          }

          level : (x y z w : ℤ) → x ≡ y +ℤ z -ℤ w → y ≡ pos 0 → w ≡ pos 0 → x ≡ z
          level x y z w e f h = omega (arith, ints)

          low : (x y z w v : ℤ) → x ≡ y +ℤ z -ℤ w → w ≡ neg_ℤ v → v ≡ pos 0 → y ≤ℤ pos 0 → z ≤ℤ pos 0 → x ≤ℤ pos 0
          low x y z w v e f h l r = omega (arith, ints)

          hull : S b a p ≤ℤ pos 0 → S b a q ≤ℤ pos 0 → S b a (mid o p q) ≤ℤ pos 0
          hull h l = low (S b a (mid o p q)) (S b a p) (S b a q) (S b a o) (S a b o) (mid_side b a o p q) (S-swap b a o) e h l

          second : S a b p ≡ pos 0 → (pos 0 <ℤ S a b q) ⊎ (S a b q ≤ℤ pos 0) → (pos 0 ≤ℤ S a b q) ⊎ (S a b q <ℤ pos 0)
              → (t : Pt) × Sector m g t × ((pos 0 <ℤ S a b t) ⊎ (S a b t <ℤ pos 0)) × (S b a p ≤ℤ pos 0 → S b a q ≤ℤ pos 0 → S b a t ≤ℤ pos 0)
          second z (inl h) l = (mid o p q, middle, inl (subst (λ y. pos 0 <ℤ y) (sym (level (S a b (mid o p q)) (S a b p) (S a b q) (S a b o) (mid_side a b o p q) z e)) h), hull)
          second z (inr h) (inr l) = (mid o p q, middle, inr (subst (λ y. y <ℤ pos 0) (sym (level (S a b (mid o p q)) (S a b p) (S a b q) (S a b o) (mid_side a b o p q) z e)) l), hull)
          second z (inr h) (inl l) = absurd (flat a b o p q n e z (both_zero (S a b q) l h) wide)

          first : (pos 0 <ℤ S a b p) ⊎ (S a b p ≤ℤ pos 0) → (pos 0 ≤ℤ S a b p) ⊎ (S a b p <ℤ pos 0)
              → (t : Pt) × Sector m g t × ((pos 0 <ℤ S a b t) ⊎ (S a b t <ℤ pos 0)) × (S b a p ≤ℤ pos 0 → S b a q ≤ℤ pos 0 → S b a t ≤ℤ pos 0)
          first (inl h) l = (p, own_sector m r3 r4 r5 u g gl gf, inl h, λ x _. x)
          first (inr h) (inr l) = (p, own_sector m r3 r4 r5 u g gl gf, inr l, λ x _. x)
          first (inr h) (inl l) = second (both_zero (S a b p) l h) (pos_or (S a b q)) (≥-or (S a b q))

      not_on : (x a b c : ℕ) → Face x a b c → S (at a) (at b) o ≡ pos 0 → pos 0 <ℤ S (at b) (at c) o → pos 0 <ℤ S (at c) (at a) o → ⊥
      unfolding Aside Over
      not_on x a b c f e ha hb = go (aside (at a) (at b) apart e) (over x a b c f)
        where
          apart : ¬ (at b ≡ at a)
          apart z = zero_clash (S (at a) (at b) (at c)) (ap (λ y. S (at a) y (at c)) z ∙ S-twice (at a) (at c)) f.left

          at_a : a ≡ w → ⊥
          at_a z = zero_clash (S (at c) (at a) o) (ap (λ v. S (at c) (at a) (at v)) (sym z) ∙ S-last (at c) (at a)) hb

          at_b : b ≡ w → ⊥
          at_b z = zero_clash (S (at b) (at c) o) (ap (λ v. S (at b) (at c) (at v)) (sym z) ∙ S-first (at b) (at c)) ha

          at_c : c ≡ w → ⊥
          at_c z = zero_clash (S (at a) (at b) (at c)) (ap (λ v. S (at a) (at b) (at v)) z ∙ e) f.left

          go : Aside (at a) (at b) → Over x a b c → ⊥
          go (t, s, inl h, hull) v =
              elim (meets x a b c t f s (count_side o t (at a) (at b) (at c) e ha hb h)) [ inl z ↦ at_a z | inr (inl z) ↦ at_b z | inr (inr z) ↦ at_c z ]
          go (t, s, inr h, hull) (inl right) =
              clash (S (at b) (at a) t) (neg-> (S (at b) (at a) t) (S (at a) (at b) t) (S-swap (at b) (at a) t) h)
              (hull (right (to m g) (to_in m r3 r4 g gl)) (right (to m (ccw m g)) (to_in m r3 r4 (ccw m g) (ccw_in m r3 r4 g gl))))
          go (t, s, inr h, hull) (inr (d, k, _)) =
              let y = other_side (at a) (at b) (at c) (at d) o f.left k.left e ha hb in
              elim (meets (rev x) b a d t k s
              (count_side o t (at b) (at a) (at d) (S-swap (at b) (at a) o ∙ ap neg_ℤ e) y.0 y.1 (neg-> (S (at b) (at a) t) (S (at a) (at b) t) (S-swap (at b) (at a) t) h))) [
                | inl z ↦ at_b z
                | inr (inl z) ↦ at_a z
                | inr (inr z) ↦ zero_clash (S (at a) (at d) o) (ap (λ v. S (at a) (at d) (at v)) (sym z) ∙ S-last (at a) (at d)) y.0
              ]

      -- two sides through o meet in it
      meet_at : (a b c : Pt) → pos 0 <ℤ S a b c → S a b o ≡ pos 0 → S b c o ≡ pos 0 → b ≡ o
      meet_at a b c h e k =
          no_ray o b c a (subst (λ z. pos 0 <ℤ z) (sym (S-cyc o c a)) (rest (S a b c) (S a b o) (S b c o) (S c a o) (S-split a b c o) e k h)) (S-cyc o b c ∙ k)
          (S-back o b a ∙ ap neg_ℤ (S-cyc o a b ∙ e))
        where
          rest : (x y z v : ℤ) → x ≡ y +ℤ z +ℤ v → y ≡ pos 0 → z ≡ pos 0 → pos 0 <ℤ x → pos 0 <ℤ v
          rest x y z v e f g h = omega (arith, ints)

      on_side : (x a b c : ℕ) → Face x a b c → S (at a) (at b) o ≡ pos 0 → pos 0 ≤ℤ S (at b) (at c) o → pos 0 ≤ℤ S (at c) (at a) o → pos 0 <ℤ C (at a) (at b) (at c) o → ⊥
      on_side x a b c f e ha hb h = go (sign-≥ (S (at b) (at c) o) ha) (sign-≥ (S (at c) (at a) o) hb)
        where
          go : (S (at b) (at c) o ≡ pos 0) ⊎ (pos 0 <ℤ S (at b) (at c) o) → (S (at c) (at a) o ≡ pos 0) ⊎ (pos 0 <ℤ S (at c) (at a) o) → ⊥
          go (inl z) y = zero_clash (C (at a) (at b) (at c) o) (ap (λ v. C (at a) (at b) (at c) v) (sym (meet_at (at a) (at b) (at c) f.left e z)) ∙ C-on (at a) (at b) (at c)) h
          go (inr z) (inl y) =
              zero_clash (C (at a) (at b) (at c) o)
              (C-rot (at a) (at b) (at c) o ∙ C-rot (at b) (at c) (at a) o
              ∙ ap (λ v. C (at c) (at a) (at b) v) (sym (meet_at (at c) (at a) (at b) (subst (λ z. pos 0 <ℤ z) (sym (S-cyc (at c) (at a) (at b))) f.left) y e)) ∙ C-on (at c) (at a) (at b)) h
          go (inr z) (inr y) = not_on x a b c f e z y

      stops : (x a b c : ℕ) → Face x a b c → pos 0 ≤ℤ S (at a) (at b) o → pos 0 ≤ℤ S (at b) (at c) o → pos 0 ≤ℤ S (at c) (at a) o → pos 0 <ℤ C (at a) (at b) (at c) o → ⊥
      stops x a b c f hc ha hb h = go (sign-≥ (S (at a) (at b) o) hc) (sign-≥ (S (at b) (at c) o) ha) (sign-≥ (S (at c) (at a) o) hb)
        where
          f2 : Face (m.next x) b c a
          f2 = turn x a b c f

          h2 : pos 0 <ℤ C (at b) (at c) (at a) o
          h2 = subst (λ z. pos 0 <ℤ z) (C-rot (at a) (at b) (at c) o) h

          go : (S (at a) (at b) o ≡ pos 0) ⊎ (pos 0 <ℤ S (at a) (at b) o) → (S (at b) (at c) o ≡ pos 0) ⊎ (pos 0 <ℤ S (at b) (at c) o) → (S (at c) (at a) o ≡ pos 0) ⊎ (pos 0 <ℤ S (at c) (at a) o) → ⊥
          go (inl z) k l = on_side x a b c f z ha hb h
          go (inr z) (inl k) l = on_side (m.next x) b c a f2 k hb hc h2
          go (inr z) (inr k) (inl l) = on_side (m.next (m.next x)) c a b (turn (m.next x) b c a f2) l hc ha (subst (λ z. pos 0 <ℤ z) (C-rot (at b) (at c) (at a) o) h2)
          go (inr z) (inr k) (inr l) = not_in x a b c f z k l

      -- ---- the walk
      seen : ℕ → ℕ → ℕ → Bool
      seen a b v = wedge o (at a) (at b) (at v)

      chase : (fuel x a b c : ℕ) → Face x a b c → pos 0 <ℤ C (at a) (at b) (at c) o → S (at a) (at b) o <ℤ pos 0 → m.n < fuel + tally (seen a b) m.n → ⊥
      unfolding seen Over
      chase zero x a b c f h away few = over_few (tally_few (seen a b) m.n)
        where
          over_few : tally (seen a b) m.n ≤ m.n → ⊥
          over_few l = omega arith
      chase (suc fuel) x a b c f h away few = go (chase fuel) (over x a b c f)
        where
          ba : pos 0 <ℤ S (at b) (at a) o
          ba = neg-> (S (at b) (at a) o) (S (at a) (at b) o) (S-swap (at b) (at a) o) away

          oba : pos 0 <ℤ S o (at b) (at a)
          oba = subst (λ z. pos 0 <ℤ z) (sym (S-cyc o (at b) (at a))) ba

          further : (s t : ℕ) → m.n < suc fuel + s → s < t → m.n < fuel + t
          further s t h l = omega arith

          Chase : Type 0
          Chase = (x a b c : ℕ) → Face x a b c → pos 0 <ℤ C (at a) (at b) (at c) o → S (at a) (at b) o <ℤ pos 0 → m.n < fuel + tally (seen a b) m.n → ⊥

          next_from : Chase → (d : ℕ) → Face (rev x) b a d → pos 0 <ℤ C (at b) (at a) (at d) o → (pos 0 ≤ℤ S (at a) (at d) o) ⊎ (S (at a) (at d) o <ℤ pos 0) → (pos 0 ≤ℤ S (at d) (at b) o) ⊎ (S (at d) (at b) o <ℤ pos 0) → ⊥
          next_from onward d k i (inr l) r =
              let db = left_of_db (at a) (at b) (at d) o k.left i (weaken (S (at a) (at d) o) (pos 0) l) in
              let odb : pos 0 <ℤ S o (at d) (at b) = subst (λ z. pos 0 <ℤ z) (sym (S-cyc o (at d) (at b))) db in
              let oda : pos 0 ≤ℤ S o (at d) (at a) = weaken (pos 0) (S o (at d) (at a)) (subst (λ z. pos 0 <ℤ z) (sym (S-cyc o (at d) (at a))) (neg-> (S (at d) (at a) o) (S (at a) (at d) o) (S-swap (at d) (at a) o) l)) in
              onward (m.next (rev x)) a d b (turn (rev x) b a d k) (subst (λ z. pos 0 <ℤ z) (C-rot (at b) (at a) (at d) o) i) l
              (further (tally (seen a b) m.n) (tally (seen a d) m.n) few
              (tally_more (seen a b) (seen a d) m.n d (λ v _ t. wider_ad o (at a) (at b) (at d) (at v) oba odb oda t) (far_in d k)
              (λ t. clash-< (S o (at b) (at d)) (neg-< (S o (at b) (at d)) (S o (at d) (at b)) (S-back o (at b) (at d)) odb) (wedge_out o (at a) (at b) (at d) t).0)
              (wedge_in o (at a) (at d) (at d) (zero-≥ (S o (at d) (at d)) (S-last o (at d))) oda)))
          next_from onward d k i (inl l) (inr r) =
              let ad = left_of_ad (at a) (at b) (at d) o k.left i (weaken (S (at d) (at b) o) (pos 0) r) in
              let oad : pos 0 <ℤ S o (at a) (at d) = subst (λ z. pos 0 <ℤ z) (sym (S-cyc o (at a) (at d))) ad in
              let obd : pos 0 ≤ℤ S o (at b) (at d) = weaken (pos 0) (S o (at b) (at d)) (subst (λ z. pos 0 <ℤ z) (sym (S-cyc o (at b) (at d))) (neg-> (S (at b) (at d) o) (S (at d) (at b) o) (S-swap (at b) (at d) o) r)) in
              onward (m.next (m.next (rev x))) d b a (turn (m.next (rev x)) a d b (turn (rev x) b a d k))
              (subst (λ z. pos 0 <ℤ z) (C-rot (at b) (at a) (at d) o ∙ C-rot (at a) (at d) (at b) o) i) r
              (further (tally (seen a b) m.n) (tally (seen d b) m.n) few
              (tally_more (seen a b) (seen d b) m.n d (λ v _ t. wider_db o (at a) (at b) (at d) (at v) oba oad obd t) (far_in d k)
              (λ t. clash-< (S o (at d) (at a)) (neg-< (S o (at d) (at a)) (S o (at a) (at d)) (S-back o (at d) (at a)) oad) (wedge_out o (at a) (at b) (at d) t).1)
              (wedge_in o (at d) (at b) (at d) obd (zero-≥ (S o (at d) (at d)) (S-last o (at d))))))
          next_from onward d k i (inl l) (inl r) = stops (rev x) b a d k (weaken (pos 0) (S (at b) (at a) o) ba) l r i

          go : Chase → Over x a b c → ⊥
          go onward (inl right) = clash (S (at b) (at a) o) ba (right w wl)
          go onward (inr (d, k, lawful)) =
              next_from onward d k (still_inside (at a) (at b) (at c) (at d) o f.left k.left lawful (weaken (S (at a) (at b) o) (pos 0) away) h)
              (≥-or (S (at a) (at d) o)) (≥-or (S (at d) (at b) o))

      no_face : (x a b c : ℕ) → Face x a b c → pos 0 <ℤ C (at a) (at b) (at c) o → ⊥
      no_face x a b c f h = go (≥-or (S (at a) (at b) o)) (≥-or (S (at b) (at c) o)) (≥-or (S (at c) (at a) o))
        where
          f2 : Face (m.next x) b c a
          f2 = turn x a b c f

          h2 : pos 0 <ℤ C (at b) (at c) (at a) o
          h2 = subst (λ z. pos 0 <ℤ z) (C-rot (at a) (at b) (at c) o) h

          far_off : (k t : ℕ) → k < suc k + t
          far_off k t = omega arith

          go : (pos 0 ≤ℤ S (at a) (at b) o) ⊎ (S (at a) (at b) o <ℤ pos 0) → (pos 0 ≤ℤ S (at b) (at c) o) ⊎ (S (at b) (at c) o <ℤ pos 0) → (pos 0 ≤ℤ S (at c) (at a) o) ⊎ (S (at c) (at a) o <ℤ pos 0) → ⊥
          go (inr z) k l = chase (suc m.n) x a b c f h z (far_off m.n (tally (seen a b) m.n))
          go (inl z) (inr k) l = chase (suc m.n) (m.next x) b c a f2 h2 k (far_off m.n (tally (seen b c) m.n))
          go (inl z) (inl k) (inr l) =
              chase (suc m.n) (m.next (m.next x)) c a b (turn (m.next x) b c a f2) (subst (λ z. pos 0 <ℤ z) (C-rot (at b) (at c) (at a) o) h2) l (far_off m.n (tally (seen c a) m.n))
          go (inl z) (inl k) (inl l) = stops x a b c f z k l h

  -- ---- no entry is inside
  empty_face : (x w : ℕ) → 1 < m.f → 2 ≤ m.n → x < halves m → 0 < m.face x → w < m.n → C (at (m.origin x)) (at (m.origin (m.next x))) (at (m.origin (m.next (m.next x)))) (at w) ≤ℤ pos 0
  empty_face x w f1 n2 l f wl = go (pos_or (C (at (m.origin x)) (at (to m x)) (at (m.origin (m.next (m.next x)))) (at w)))
    where
      d : ℕ
      d = m.origin (m.next (m.next x))

      go : (pos 0 <ℤ C (at (m.origin x)) (at (to m x)) (at d) (at w)) ⊎ (C (at (m.origin x)) (at (to m x)) (at d) (at w) ≤ℤ pos 0) → C (at (m.origin x)) (at (m.origin (m.next x))) (at d) (at w) ≤ℤ pos 0
      go (inr h) = subst (λ v. C (at (m.origin x)) (at v) (at d) (at w) ≤ℤ pos 0) (r4.joins x l) h
      go (inl h) = let g = own f1 w wl n2 in absurd (no_face f1 w wl g.0 g.1 g.2 g.3 x (m.origin x) (to m x) d (face_of_half x l f) h)

pub legal_is_empty : LegalIsEmpty
legal_is_empty m n2 r w t u c only long legal k v kl vl d =
    let r3 = ranges m r in
    let r4 = weave m r w in
    let p = positive k d in
    empty_face m r3 r4 (triangles m t) (outside m u c only) long legal (m.adj k) v (more k p kl) n2 (r3.adj_in k kl n2) (subst (λ z. 0 < z) (sym (r4.adj_at k kl n2)) p) vl
  where
    more : (k : ℕ) → 0 < k → k < m.f → 1 < m.f
    more k h l = omega arith

pub sound_is_legal : SoundIsLegal
sound_is_legal m sd h l f g =
    let r3 = ranges_of m sd in
    let t = rev_below m.e h l in
    face_empty m r3 (weave_of m sd) (triangles_of m sd) (circles_of m sd) h (m.origin (m.next (m.next (rev h)))) l (positive (m.face h) f)
    (r3.origin_names (m.next (m.next (rev h))) (r3.next_names (m.next (rev h)) (r3.next_names (rev h) t)))
