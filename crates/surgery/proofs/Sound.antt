-- What an entry of a sound map offers to be cut out by.
use Rattle.std.proofs.Common.{◌≡◌, ℕ, ◌/◌, ◌<◌, ◌≤◌, Bool, true, false, cond, eqb, ◌≢◌, ◌⊎◌, pos, ◌<ℤ◌, sym, refl, ap, ◌∙◌, subst, inl, inr, arith}
use native.Mathlib.Decide.{ℕ_discrete}
use Rattle.zring.proofs.Signs.{neg_clash}
use Rattle.plane.specs.Plane.{S}
use Rattle.plane.proofs.Sides.{S-swap}
use Rattle.links.specs.Links.{Links, rev, halves, to, place, cw, ccw}
use Rattle.links.specs.Rules.{Sound}
use Rattle.links.proofs.Halves.{rev_rev, rev_below}
use Rattle.links.proofs.Decide.{dec_eq, dec_nat_lt, dec_and, dec_or, never}
use Rattle.planar.specs.Star.{Inner}
use Rattle.planar.proofs.Views.{Ranges, Weave, Triangles, ranges_of, weave_of, triangles_of}
use Rattle.planar.proofs.Faces.{Among, around, triangle, corner_once, two}
use Rattle.planar.proofs.Line.{turn_back, spokes_at, path}
use Rattle.planar.proofs.Spokes.{ends_differ}
use Rattle.planar.proofs.Rings.{ccw_in, cw_in, ccw_origin, ccw_cw, ccw_only}
use Rattle.surgery.specs.Cut.{Spoked}
use Rattle.surgery.specs.Sound.{star_of, spoke_of, InnerSpoked, LineLeaf, LineMiddle}

module _ (m : Links) (sd : Sound m) (v : ℕ) (vl : v < m.n) (inn : Inner m v) where
  r3 : Ranges m
  r3 = ranges_of m sd

  r4 : Weave m
  r4 = weave_of m sd

  r5 : Triangles m
  r5 = triangles_of m sd

  abbrev E : ℕ → Type 0
  E k = k < m.e

  in_halves : (h : ℕ) → E (h / 2) → h < halves m
  in_halves h l = omega arith

  in_edges : (h : ℕ) → h < halves m → E (h / 2)
  in_edges h l = omega arith

  -- ---- a face about v
  pub record About (g : ℕ) : Type 0 where
    pub inner : 0 < g
    pub below : g < m.f
    pub corner : (m.origin (m.adj g) ≡ v) ⊎ ((m.origin (m.next (m.adj g)) ≡ v) ⊎ (m.origin (m.next (m.next (m.adj g))) ≡ v))

  about : (g : ℕ) → star_of m v g ≡ true → About g
  about g t =
      let p = (dec_and (dec_and (dec_nat_lt 0 g) (dec_nat_lt g m.f)) (dec_or (dec_eq (m.origin (m.adj g)) v) (dec_or (dec_eq (m.origin (m.next (m.adj g))) v) (dec_eq (m.origin (m.next (m.next (m.adj g)))) v)))).0 t in
      record { inner = p.0.0; below = p.0.1; corner = p.1 }

  starry : (g : ℕ) → About g → star_of m v g ≡ true
  starry g a =
      (dec_and (dec_and (dec_nat_lt 0 g) (dec_nat_lt g m.f)) (dec_or (dec_eq (m.origin (m.adj g)) v) (dec_or (dec_eq (m.origin (m.next (m.adj g))) v) (dec_eq (m.origin (m.next (m.next (m.adj g)))) v)))).1
      ((a.inner, a.below), a.corner)

  -- the half that is named
  named : (g : ℕ) (b c : Bool) (x y z : ℕ) → (P : ℕ → Type 0) → (b ≡ true → P x) → (c ≡ true → P y) → (b ≡ false → c ≡ false → P z) → P (cond b x (cond c y z))
  named g true c x y z P p q r = p refl
  named g false true x y z P p q r = q refl
  named g false false x y z P p q r = r refl refl

  -- the halves of the face g
  module _ (n2 : 2 ≤ m.n) (g : ℕ) (a : About g) where
    a0 : m.adj g < halves m
    a0 = r3.adj_in g a.below n2

    a1 : m.next (m.adj g) < halves m
    a1 = r3.next_names (m.adj g) a0

    a2 : m.next (m.next (m.adj g)) < halves m
    a2 = r3.next_names (m.next (m.adj g)) a1

    f0 : m.face (m.adj g) ≡ g
    f0 = r4.adj_at g a.below n2

    f1 : m.face (m.next (m.adj g)) ≡ g
    f1 = r4.shares (m.adj g) a0 ∙ f0

    f2 : m.face (m.next (m.next (m.adj g))) ≡ g
    f2 = r4.shares (m.next (m.adj g)) a1 ∙ f1

    not_true : (x : ℕ) → eqb x v ≡ false → x ≢ v
    not_true x e q = never (sym e ∙ (dec_eq x v).1 q)

    spoke_good : (spoke_of m v g < halves m) × (m.origin (spoke_of m v g) ≡ v) × (m.face (spoke_of m v g) ≡ g)
    spoke_good =
        named g (eqb (m.origin (m.adj g)) v) (eqb (m.origin (m.next (m.adj g))) v) (m.adj g) (m.next (m.adj g)) (m.next (m.next (m.adj g)))
        (λ x. (x < halves m) × (m.origin x ≡ v) × (m.face x ≡ g))
        (λ e. (a0, (dec_eq (m.origin (m.adj g)) v).0 e, f0))
        (λ e. (a1, (dec_eq (m.origin (m.next (m.adj g))) v).0 e, f1))
        (λ p q. (a2, last a.corner p q, f2))
      where
        last : (m.origin (m.adj g) ≡ v) ⊎ ((m.origin (m.next (m.adj g)) ≡ v) ⊎ (m.origin (m.next (m.next (m.adj g))) ≡ v))
            → eqb (m.origin (m.adj g)) v ≡ false → eqb (m.origin (m.next (m.adj g))) v ≡ false → m.origin (m.next (m.next (m.adj g))) ≡ v
        last (inl e) p q = absurd (not_true (m.origin (m.adj g)) p e)
        last (inr (inl e)) p q = absurd (not_true (m.origin (m.next (m.adj g))) q e)
        last (inr (inr e)) p q = e

  -- ---- the halves out of v
  starred : (h : ℕ) → h < halves m → m.origin h ≡ v → About (m.face h)
  unfolding Among
  starred h l e =
      let g = m.face h in
      let p = inn h l e in
      let b = r3.face_names h l in
      let n2 = two m r3 r4 h l in
      let al = r3.adj_in g b n2 in
      let af = r4.adj_at g b n2 in
      record { inner = p; below = b; corner = corner (around m r3 r4 r5 (m.adj g) h al l (subst (λ k. 0 < k) (sym af) p) (sym af)) }
    where
      corner : Among m (m.adj (m.face h)) h → (m.origin (m.adj (m.face h)) ≡ v) ⊎ ((m.origin (m.next (m.adj (m.face h))) ≡ v) ⊎ (m.origin (m.next (m.next (m.adj (m.face h)))) ≡ v))
      corner (inl q) = inl (ap m.origin q ∙ e)
      corner (inr (inl q)) = inr (inl (ap m.origin q ∙ e))
      corner (inr (inr q)) = inr (inr (ap m.origin q ∙ e))

  -- the far corner of a half of a face about v with neither end at v
  far_is : (h : ℕ) → h < halves m → m.origin h ≢ v → to m h ≢ v → About (m.face h) → (0 < m.face h) × (m.origin (m.next (m.next h)) ≡ v)
  unfolding Among
  far_is h l n1 n2 a =
      let s = spoke_good (two m r3 r4 h l) (m.face h) a in
      (a.inner, corner (around m r3 r4 r5 h (spoke_of m v (m.face h)) l s.0 a.inner s.2) s.1)
    where
      corner : Among m h (spoke_of m v (m.face h)) → m.origin (spoke_of m v (m.face h)) ≡ v → m.origin (m.next (m.next h)) ≡ v
      corner (inl q) e = absurd (n1 (ap m.origin q ∙ e))
      corner (inr (inl q)) e = absurd (n2 (r4.joins h l ∙ ap m.origin q ∙ e))
      corner (inr (inr q)) e = ap m.origin q ∙ e

  left_of : (h : ℕ) → h < halves m → m.origin h ≢ v → to m h ≢ v → About (m.face h) → pos 0 <ℤ S (place m (m.origin h)) (place m (to m h)) (place m v)
  left_of h l n1 n2 a =
      let f = far_is h l n1 n2 a in
      subst (λ i. pos 0 <ℤ S (place m (m.origin h)) (place m (to m h)) (place m i)) f.1
      (subst (λ i. pos 0 <ℤ S (place m (m.origin h)) (place m i) (place m (m.origin (m.next (m.next h))))) (sym (r4.joins h l)) (triangle m r3 r4 r5 h l f.0).turns)

  spoked : Spoked m E v (star_of m v) (spoke_of m v)
  spoked = record {
    starred = λ h l e. starry (m.face h) (starred h (in_halves h l) e);
    spoke_live = λ h l t. in_edges (spoke_of m v (m.face h)) (good h l t).0;
    spoke_from = λ h l t. (good h l t).1;
    spoke_face = λ h l t. (good h l t).2;
    lone = λ h k l r e q f. corner_once m r3 r4 r5 h k (in_halves h l) (in_halves k r) (inn h (in_halves h l) e) f (e ∙ sym q);
    thick = thick;
  }
    where
      good : (h : ℕ) → E (h / 2) → star_of m v (m.face h) ≡ true → (spoke_of m v (m.face h) < halves m) × (m.origin (spoke_of m v (m.face h)) ≡ v) × (m.face (spoke_of m v (m.face h)) ≡ m.face h)
      good h l t = spoke_good (two m r3 r4 h (in_halves h l)) (m.face h) (about (m.face h) t)

      thick : (h : ℕ) → E (h / 2) → m.origin h ≡ v → m.origin (rev (m.next h)) ≢ v
      thick h l e q =
          let hl = in_halves h l in
          let p = inn h hl e in
          let n1 = r3.next_names h hl in
          let n2 = r3.next_names (m.next h) n1 in
          let t = triangle m r3 r4 r5 h hl p in
          let x = corner_once m r3 r4 r5 h (m.next (m.next h)) hl n2 p (sym (r4.shares (m.next h) n1 ∙ r4.shares h hl)) (e ∙ sym q ∙ r4.joins (m.next h) n1) in
          t.moves (ap m.next x ∙ t.closes)

  walls : (h : ℕ) → h / 2 < m.e → m.origin h ≢ v → to m h ≢ v → star_of m v (m.face h) ≡ true → star_of m v (m.face (rev h)) ≡ true → ⊥
  walls h l n1 n2 s t =
      let hl = in_halves h l in
      let rl = rev_below m.e h hl in
      let back : to m (rev h) ≡ m.origin h = ap m.origin (rev_rev h) in
      neg_clash (S (place m (m.origin h)) (place m (to m h)) (place m v)) (S (place m (to m h)) (place m (m.origin h)) (place m v)) (S-swap (place m (m.origin h)) (place m (to m h)) (place m v))
      (left_of h hl n1 n2 (about (m.face h) s))
      (subst (λ i. pos 0 <ℤ S (place m (to m h)) (place m i) (place m v)) back (left_of (rev h) rl n2 (λ e. n1 (sym back ∙ e)) (about (m.face (rev h)) t)))

pub inner_spoked : InnerSpoked
inner_spoked m sd v vl inn = (spoked m sd v vl inn, walls m sd v vl inn)

-- ---- a line
outer_only : (m : Links) → m.f ≡ 1 → (k : ℕ) → k < m.f → k ≡ 0
outer_only m f1 k l = omega arith

pub line_leaf : LineLeaf
line_leaf m sd f1 n3 s sl lone = record {
  starred = λ h l e. outer h l;
  spoke_live = λ h l t. in_edges s sl;
  spoke_from = λ h l t. refl;
  spoke_face = λ h l t. zero_face s sl ∙ sym (zero_face h (in_halves h l));
  lone = λ h k l r e q f. same h l e ∙ sym (same k r q);
  thick = thick;
}
  where
    r3 : Ranges m
    r3 = ranges_of m sd

    r4 : Weave m
    r4 = weave_of m sd

    in_halves : (h : ℕ) → h / 2 < m.e → h < halves m
    in_halves h l = omega arith

    in_edges : (h : ℕ) → h < halves m → h / 2 < m.e
    in_edges h l = omega arith

    zero_face : (h : ℕ) → h < halves m → m.face h ≡ 0
    zero_face h l = outer_only m f1 (m.face h) (r3.face_names h l)

    outer : (h : ℕ) → h / 2 < m.e → eqb (m.face h) 0 ≡ true
    outer h l = (dec_eq (m.face h) 0).1 (zero_face h (in_halves h l))

    same : (h : ℕ) → h / 2 < m.e → m.origin h ≡ m.origin s → h ≡ s
    same h l e = elim (spokes_at m sd f1 s h sl (in_halves h l) e) [ inl q ↦ q | inr q ↦ q ∙ lone ]

    e2 : 2 ≤ m.e
    e2 = let e = sd.euler.1 (λ z. absurd (omega arith)) in omega arith

    thick : (h : ℕ) → h / 2 < m.e → m.origin h ≡ m.origin s → m.origin (rev (m.next h)) ≢ m.origin s
    thick h l e q =
        let z = same h l e in
        let q' : to m (m.next s) ≡ m.origin s = subst (λ x. to m (m.next x) ≡ m.origin s) z q in
        let t : m.next s ≡ rev s = ends_differ m sd (m.next s) (rev s) (r3.next_names s sl) (rev_below m.e s sl) (sym (r4.joins s sl)) (q' ∙ ap m.origin (sym (rev_rev s))) in
        let turn : m.next (rev s) ≡ s = ccw_only m r3 r4 (cw m s) s (cw_in m r3 r4 s sl) sl (ccw_cw m r3 r4 s sl ∙ sym lone) in
        (path m sd f1 (omega arith) s sl lone).differ 0 2 (omega arith) e2 (sym (ap (λ x. m.origin (m.next x)) t ∙ ap m.origin turn))

pub line_middle : LineMiddle
line_middle m sd f1 s sl two_of = record {
  from = ccw_origin m r3 r4 s sl;
  only = λ h l e. spokes_at m sd f1 s h sl (in_halves h l) e;
  next_1 = next_of s sl;
  next_2 = next_of (ccw m s) cl ∙ turn_back m sd f1 s sl;
  apart = λ e. two_of (sym (ends_differ m sd s (ccw m s) sl cl (sym (ccw_origin m r3 r4 s sl)) e));
  way = way (ℕ_discrete (m.next (ccw m s)) (rev (ccw m s)));
}
  where
    r3 : Ranges m
    r3 = ranges_of m sd

    r4 : Weave m
    r4 = weave_of m sd

    in_halves : (h : ℕ) → h / 2 < m.e → h < halves m
    in_halves h l = omega arith

    cl : ccw m s < halves m
    cl = ccw_in m r3 r4 s sl

    -- with two spokes, clockwise is counterclockwise
    next_of : (h : ℕ) → h < halves m → m.next (rev h) ≡ ccw m h
    next_of h l = ccw_only m r3 r4 (cw m h) (ccw m h) (cw_in m r3 r4 h l) (ccw_in m r3 r4 h l) (ccw_cw m r3 r4 h l ∙ sym (turn_back m sd f1 h l))

    way : Dec (m.next (ccw m s) ≡ rev (ccw m s)) → ((m.next (ccw m s) ≡ rev (ccw m s)) × (m.prev (rev (ccw m s)) ≡ ccw m s)) ⊎ ((m.next (ccw m s) ≢ rev (ccw m s)) × (m.prev (rev (ccw m s)) ≢ ccw m s))
    way (yes e) = inl (e, ap m.prev (sym e) ∙ (r4.undone (ccw m s) cl).0)
    way (no d) = inr (d, λ q. d (ap m.next (sym q) ∙ (r4.undone (rev (ccw m s)) (rev_below m.e (ccw m s) cl)).1))
