-- The volume of the hole over the erased entry: a flip lowers it.
use Rattle.std.proofs.Common.{◌≡◌, ℕ, zero, suc, ◌*◌, ◌^◌, ◌<◌, ◌≤◌, Bool, true, false, cond, ◌&&◌, ◌≢◌, ℤ, pos, ◌+ℤ◌, nat_abs, ◌≤ℤ◌, ◌<ℤ◌, sym, refl, ap, ◌∙◌, ap₂, arith}
use borrow.Author.Differences.{ints}
use Rattle.std.proofs.lemmas.Bool.{cond_both, cond-true, and_from, and_parts}
use Rattle.plane.specs.Plane.{Pt, C}
use Rattle.plane.proofs.Circles.{C-rot}
use Rattle.links.specs.Links.{Links, rev}
use Rattle.delaunay.specs.Measure.{total, Changed}
use Rattle.delaunay.proofs.Measure.{flip_falls, total-≥}
use Rattle.surgery.specs.Update.{flip}
use Rattle.surgery.specs.Theorems.{On}
use Rattle.surgery.proofs.Updates.{Out}
use Rattle.surgery.proofs.Cycles.{along_reach}
use Rattle.surgery.proofs.Flip as Flip
use Rattle.erasure.specs.Region.{Hole, Inside, label, Region, Voluminous}
use Rattle.erasure.proofs.FlipRegion.{unrooted, goes_to, comes_from, faces_differ, quad, links_flip, flip_region}

-- volumes over equal corners
volumes : (o : Pt) {a a' b b' c c' : Pt} → a ≡ a' → b ≡ b' → c ≡ c' → C a b c o ≡ C a' b' c' o
volumes o p q r = λ i. C (p i) (q i) (r i) o

-- what differs where the test fails does not matter
cond_same : (b : Bool) (x y z : ℤ) → (b ≡ true → x ≡ y) → cond b x z ≡ cond b y z
cond_same true x y z h = h refl
cond_same false x y z h = refl

-- a sum of numbers that are at most 2^60
total-≤ : (f : ℕ → ℤ) (n : ℕ) → ((m : ℕ) → m < n → f m ≤ℤ pos (2 ^ 60)) → total f n ≤ℤ pos (n * 2 ^ 60)
total-≤ f zero h = omega (arith, ints)
total-≤ f (suc n) h = more (total f n) (f n) n (total-≤ f n (λ m l. h m (omega arith))) (h n (omega arith))
  where
    more : (s x : ℤ) (n : ℕ) → s ≤ℤ pos (n * 2 ^ 60) → x ≤ℤ pos (2 ^ 60) → (s +ℤ x) ≤ℤ pos (suc n * 2 ^ 60)
    more s x n p q = omega (arith, ints)

module _ (H : Hole) where
  -- the volume of the face of h
  abbrev pub volume_at : Links → ℕ → ℤ
  volume_at L h = C (H.p (label H L h)) (H.p (label H L (L.next h))) (H.p (label H L (L.next (L.next h)))) H.o

  -- the volume of the live face i, if its adjacent_edge is in the hole
  abbrev pub volume : Links → ℕ → ℤ
  volume L i = cond (H.faces i && H.inside (L.adj i)) (volume_at L (L.adj i)) (pos 0)

module _ (H : Hole) (L : Links) (R : Region H L) where
  -- the halves of a face give the same volume
  turned : (h : ℕ) → Inside H h → volume_at H L (L.next h) ≡ volume_at H L h
  turned h i = volumes H.o refl refl (ap (λ x. H.p (label H L x)) (R.mesh.three h i)) ∙ sym (C-rot _ _ _ _)

  -- the volume of the face of a half in the hole
  pub face_volume : (h : ℕ) → Inside H h → volume H L (L.face h) ≡ volume_at H L h
  face_volume h i =
      let f = L.face h in
      let live = R.linked.face_live h (R.live h i) in
      let r = (unrooted H L R).turn h (L.adj f) (R.live h i) (R.linked.adj_live f live) (sym (R.linked.adj_face f live)) in
      let s = along_reach L.next h (L.adj f) (λ x. Inside H x × (volume_at H L x ≡ volume_at H L h)) r (i, refl) (λ x p. (R.mesh.stays x p.0, turned x p.0 ∙ p.1)) in
      cond-true (H.faces f && H.inside (L.adj f)) _ _ (and_from (H.faces f) (H.inside (L.adj f)) live s.0) ∙ s.1

  module _ (V : Voluminous H) where
    -- volumes are not negative
    volume_low : (i : ℕ) → pos 0 ≤ℤ volume H L i
    volume_low i =
        cond_both (H.faces i && H.inside (L.adj i)) (volume_at H L (L.adj i)) (pos 0) (λ z. pos 0 ≤ℤ z)
        (λ q. V.low _ _ _ (R.mesh.order (L.adj i) (and_parts (H.faces i) (H.inside (L.adj i)) q).1)) (λ _. omega (arith, ints))

    -- and not too large
    volume_high : (i : ℕ) → volume H L i ≤ℤ pos (2 ^ 60)
    volume_high i =
        cond_both (H.faces i && H.inside (L.adj i)) (volume_at H L (L.adj i)) (pos 0) (λ z. z ≤ℤ pos (2 ^ 60))
        (λ q. V.high _ _ _ (R.mesh.order (L.adj i) (and_parts (H.faces i) (H.inside (L.adj i)) q).1)) (λ _. omega (arith, ints))

    -- nor is their sum
    pub total_low : (n : ℕ) → pos 0 ≤ℤ total (volume H L) n
    total_low n = total-≥ (volume H L) n (λ m _. volume_low m)

    -- which is not too large either
    pub total_high : (n : ℕ) → nat_abs (total (volume H L) n) ≤ n * 2 ^ 60
    total_high n = go (total (volume H L) n) n (total_low n) (total-≤ (volume H L) n (λ m _. volume_high m))
      where
        go : (z : ℤ) (n : ℕ) → pos 0 ≤ℤ z → z ≤ℤ pos (n * 2 ^ 60) → nat_abs z ≤ n * 2 ^ 60
        go z n p q = omega (arith, ints)

-- ---- a flip of an edge that is not legal
module _ (H : Hole) (L : Links) (R : Region H L) (e : ℕ) (ie : Inside H e) (it : Inside H (rev e))
    (bad : pos 0 <ℤ C (H.p (label H L e)) (H.p (label H L (L.next e))) (H.p (label H L (L.next (L.next e)))) (H.p (label H L (L.next (L.next (rev e)))))) where
  abbrev t : ℕ
  t = rev e

  abbrev en : ℕ
  en = L.next e

  abbrev ep : ℕ
  ep = L.next (L.next e)

  abbrev tn : ℕ
  tn = L.next t

  abbrev tp : ℕ
  tp = L.next (L.next t)

  -- the links after the flip
  fl : Flip.Flipped L (flip L e) e t en ep tn tp
  fl = links_flip H L R e ie it

  -- the two triangles before it
  Q : Flip.Quad L (On H.edges) e t en ep tn tp
  Q = quad H L R e ie it

  -- the region after it
  R' : Region H (flip L e)
  R' = flip_region H L R e ie it (λ _. bad)

  -- where a half starts after the flip
  abbrev at : ℕ → Pt
  at h = H.p (label H (flip L e) h)

  -- where an old one did
  placed : (h g : ℕ) → (flip L e).origin h ≡ L.origin g → at h ≡ H.p (label H L g)
  placed h g q = ap (λ v. H.p (H.lab v)) q

  -- a half other than the two of the edge starts where it did
  unmoved : (h : ℕ) → h ≢ e → h ≢ t → at h ≡ H.p (label H L h)
  unmoved h a b = placed h h (fl.origin_else h a b)

  turn : {a b : ℕ} → a ≢ b → b ≢ a
  turn d q = d (sym q)

  -- the volumes of the two faces before
  before_t : volume_at H L t ≡ C (H.p (label H L en)) (H.p (label H L e)) (H.p (label H L tp)) H.o
  before_t = volumes H.o (ap H.p (goes_to H L R e ie)) (ap H.p (comes_from H L R e it)) refl

  -- and after
  after_e : volume_at H (flip L e) e ≡ C (H.p (label H L ep)) (H.p (label H L tp)) (H.p (label H L en)) H.o
  after_e =
      volumes H.o (placed e ep fl.origin_e) (ap at fl.next_e ∙ unmoved tp (turn Q.e_tp) (turn Q.t_tp))
      (ap (λ x. at ((flip L e).next x)) fl.next_e ∙ ap at fl.next_tp ∙ unmoved en (turn Q.e_en) (turn Q.t_en))

  after_t : volume_at H (flip L e) t ≡ C (H.p (label H L tp)) (H.p (label H L ep)) (H.p (label H L e)) H.o
  after_t =
      volumes H.o (placed t tp fl.origin_t) (ap at fl.next_t ∙ unmoved ep (turn Q.e_ep) (turn Q.t_ep))
      (ap (λ x. at ((flip L e).next x)) fl.next_t ∙ ap at fl.next_ep ∙ unmoved tn (turn Q.e_tn) (turn Q.t_tn) ∙ ap H.p (comes_from H L R e it))

  -- the face of a half as before
  same_face : (h : ℕ) → h ≢ ep → h ≢ tp → Inside H h → volume H (flip L e) (L.face h) ≡ volume_at H (flip L e) h
  same_face h a b i = ap (volume H (flip L e)) (sym (fl.face_else h a b)) ∙ face_volume H (flip L e) R' h i

  -- a half of another face is none of the six
  out : (h : ℕ) → L.face h ≢ L.face e → L.face h ≢ L.face t → Out e t en ep tn tp h
  out h a b = record {
    na = λ q. a (ap L.face q);
    nb = λ q. b (ap L.face q);
    nc = λ q. a (ap L.face q ∙ Q.face_en);
    nd = λ q. a (ap L.face q ∙ Q.face_ep);
    ne = λ q. b (ap L.face q ∙ Q.face_tn);
    nf = λ q. b (ap L.face q ∙ Q.face_tp);
  }

  -- its volume stays
  else_at : (h : ℕ) → Inside H h → L.face h ≢ L.face e → L.face h ≢ L.face t → volume_at H (flip L e) h ≡ volume_at H L h
  else_at h i a b =
      let n1 = L.next h in
      let n2 = L.next n1 in
      let f1 = R.linked.face_next h (R.live h i) in
      let i1 = R.mesh.stays h i in
      let f2 = R.linked.face_next n1 (R.live n1 i1) ∙ f1 in
      let o0 = out h a b in
      let o1 = out n1 (λ q. a (sym f1 ∙ q)) (λ q. b (sym f1 ∙ q)) in
      let o2 = out n2 (λ q. a (sym f2 ∙ q)) (λ q. b (sym f2 ∙ q)) in
      volumes H.o (unmoved h o0.na o0.nb) (ap at (fl.next_else h o0) ∙ unmoved n1 o1.na o1.nb)
      (ap (λ x. at ((flip L e).next x)) (fl.next_else h o0) ∙ ap at (fl.next_else n1 o1) ∙ unmoved n2 o2.na o2.nb)

  -- the volumes of other faces stay
  else : (i : ℕ) → i ≢ L.face e → i ≢ L.face t → volume H (flip L e) i ≡ volume H L i
  else i a b =
      ap (λ x. cond (H.faces i && H.inside x) (volume_at H (flip L e) x) (pos 0)) (fl.adj_else i a b)
      ∙ cond_same (H.faces i && H.inside x) (volume_at H (flip L e) x) (volume_at H L x) (pos 0) same
    where
      x : ℕ
      x = L.adj i

      same : (H.faces i && H.inside x) ≡ true → volume_at H (flip L e) x ≡ volume_at H L x
      same q =
          let l = and_parts (H.faces i) (H.inside x) q in
          let f = R.linked.adj_face i l.0 in
          else_at x l.1 (λ y. a (sym f ∙ y)) (λ y. b (sym f ∙ y))

  -- the flip changes the volumes of two faces
  changed : (n : ℕ) → ((g : ℕ) → On H.faces g → g < n) → Changed (volume H L) (volume H (flip L e)) (L.face e) (L.face t) n
  changed n low = record {
    first = low (L.face e) (R.linked.face_live e (R.live e ie));
    second = low (L.face t) (R.linked.face_live t (R.live t it));
    apart = faces_differ H L R e ie it;
    other = λ m _ a b. else m a b;
  }

  -- and lowers their sum by what the edge lacks to be legal
  pub flip_lowers : (n : ℕ) → ((g : ℕ) → On H.faces g → g < n)
      → total (volume H L) n ≡ total (volume H (flip L e)) n +ℤ C (H.p (label H L e)) (H.p (label H L en)) (H.p (label H L ep)) (H.p (label H L tp))
  flip_lowers n low =
      flip_falls (H.p (label H L e)) (H.p (label H L en)) (H.p (label H L ep)) (H.p (label H L tp)) H.o
      (volume H L) (volume H (flip L e)) (L.face e) (L.face t) n (changed n low)
      (ap₂ ◌+ℤ◌ (face_volume H L R e ie) (face_volume H L R t it ∙ before_t))
      (ap₂ ◌+ℤ◌ (same_face e Q.e_ep Q.e_tp ie ∙ after_e) (same_face t Q.t_ep Q.t_tp it ∙ after_t))
