-- One flip in the hole keeps the region, and changes nothing outside the hole.
use Rattle.std.proofs.Common.{◌≡◌, ℕ, ◌<◌, true, false, ◌≢◌, pos, ◌<ℤ◌, sym, refl, ap, ◌∙◌, subst, arith}
use native.Mathlib.Decide.{ℕ_discrete}
use Rattle.std.proofs.lemmas.Bool.{both_ways}
use Rattle.plane.specs.Plane.{C}
use Rattle.links.specs.Links.{Links, rev, place}
use Rattle.links.proofs.Halves.{rev_rev}
use Rattle.delaunay.specs.Ring.{Cyc}
use Rattle.delaunay.specs.Mesh.{Mesh, Flipped}
use Rattle.delaunay.proofs.Cycle.{cyc3}
use Rattle.delaunay.proofs.Mesh.{flipped as mesh_flipped, stay_left}
use Rattle.surgery.specs.Linked.{Linked}
use Rattle.surgery.specs.Update.{flip}
use Rattle.surgery.specs.Theorems.{On}
use Rattle.surgery.proofs.Updates.{Out, cases_to}
use Rattle.surgery.proofs.Roots.{Unrooted, unroot}
use Rattle.surgery.proofs.Flip as Flip
use Rattle.surgery.proofs.Theorems.{flip_linked}
use Rattle.erasure.specs.Region.{Hole, Inside, label, Region, Framed}
use Rattle.erasure.proofs.FlipMesh.{mesh_flip, flip_forward}

-- the far corners of two faces on the ring, on the two sides of an edge, differ
far_corners : (k a b c d : ℕ) → Cyc k a b c → Cyc k b a d → c ≢ d
far_corners k a b c d p q = omega arith

module _ (H : Hole) (L : Links) (R : Region H L) where
  -- the link rules without roots
  pub unrooted : Unrooted L (On H.entries) (On H.edges) (On H.faces)
  unrooted = unroot L (On H.entries) (On H.edges) (On H.faces) L.e R.below R.linked

  -- faces in the hole are triangles
  pub triangle : (h : ℕ) → Inside H h → L.next (L.next h) ≡ L.prev h
  triangle h i =
      let i2 = R.mesh.stays (L.next h) (R.mesh.stays h i) in
      sym (R.linked.prev_next (L.next (L.next h)) (R.live _ i2)) ∙ ap L.prev (R.mesh.three h i)

  -- a half ends where the next starts
  pub goes_to : (h : ℕ) → Inside H h → label H L (rev h) ≡ label H L (L.next h)
  goes_to h i = ap H.lab (sym (R.linked.to_next h (R.live h i)))

  -- after its twin comes a half from where it starts
  pub comes_from : (h : ℕ) → Inside H (rev h) → label H L (L.next (rev h)) ≡ label H L h
  comes_from h i = sym (goes_to (rev h) i) ∙ ap (label H L) (rev_rev h)

-- an edge with both halves in the hole
module _ (H : Hole) (L : Links) (R : Region H L) (e : ℕ) (ie : Inside H e) (it : Inside H (rev e)) where
  abbrev t : ℕ
  t = rev e

  abbrev en : ℕ
  en = L.next e

  abbrev ep : ℕ
  ep = L.next (L.next e)

  abbrev tn : ℕ
  tn = L.next t

  abbrev tp : ℕ
  tp = L.next (L.next t)

  i_en : Inside H en
  i_en = R.mesh.stays e ie

  i_ep : Inside H ep
  i_ep = R.mesh.stays en i_en

  i_tn : Inside H tn
  i_tn = R.mesh.stays t it

  i_tp : Inside H tp
  i_tp = R.mesh.stays tn i_tn

  -- its faces differ
  pub faces_differ : L.face e ≢ L.face t
  faces_differ = R.linked.sides (L.face e) e (R.linked.face_live e (R.live e ie)) (R.inner e ie) (R.live e ie)

  -- so do its far corners
  corners_differ : L.origin (L.prev e) ≢ L.origin (L.prev t)
  corners_differ q =
      far_corners H.size (label H L e) (label H L en) (label H L ep) (label H L tp) (R.mesh.order e ie)
      (cyc3 H.size (goes_to H L R e ie) (comes_from H L R e it) refl (R.mesh.order t it))
      (ap (λ x. H.lab (L.origin x)) (triangle H L R e ie) ∙ ap H.lab q ∙ ap (λ x. H.lab (L.origin x)) (sym (triangle H L R t it)))

  -- its two triangles have six halves
  pub quad : Flip.Quad L (On H.edges) e t en ep tn tp
  quad =
      subst (λ p. Flip.Quad L (On H.edges) e t en p tn tp) (sym (triangle H L R e ie))
      (subst (λ p. Flip.Quad L (On H.edges) e t en (L.prev e) tn p) (sym (triangle H L R t it))
      (Flip.quad L (On H.entries) (On H.edges) (On H.faces) e (unrooted H L R) (R.live e ie) (triangle H L R e ie) (triangle H L R t it) faces_differ corners_differ))

  -- the links after the flip, place by place
  pub links_flip : Flip.Flipped L (flip L e) e t en ep tn tp
  links_flip = flip_forward L (On H.entries) (On H.edges) (On H.faces) e (unrooted H L R) (R.live e ie) (triangle H L R e ie) (triangle H L R t it) faces_differ corners_differ

  -- it is a flip of the mesh
  pub flip_in : Flipped ℕ e t en ep tn tp L.next (flip L e).next (label H L) (label H (flip L e))
  flip_in = mesh_flip H.lab L (flip L e) e t en ep tn tp links_flip

  -- the links stay in order
  flip_keeps_links : Linked (flip L e) (On H.entries) (On H.edges) (On H.faces)
  flip_keeps_links =
      flip_linked L (On H.entries) (On H.edges) (On H.faces) L.e e R.below R.linked (R.live e ie)
      (triangle H L R e ie) (triangle H L R t it) faces_differ corners_differ

  -- the faces stay on the ring
  flip_keeps_mesh : Mesh ℕ (Inside H) (flip L e).next rev (label H (flip L e)) H.size (λ a b. H.border a b ≡ true)
  flip_keeps_mesh =
      mesh_flipped ℕ ℕ_discrete (Inside H) L.next rev (label H L) H.size (λ a b. H.border a b ≡ true) R.mesh
      (flip L e).next (label H (flip L e)) e ie it (goes_to H L R e ie) (comes_from H L R e it) flip_in

  -- faces in the hole stay inner ones
  flip_keeps_inner : (h : ℕ) → Inside H h → (flip L e).face h ≢ 0
  flip_keeps_inner h i =
      let Ok = λ (x : ℕ). (flip L e).face x ≢ 0 in
      cases_to Ok ep h (λ q. R.inner t it (sym links_flip.face_ep ∙ q))
      (λ np. cases_to Ok tp h (λ q. R.inner e ie (sym links_flip.face_tp ∙ q)) (λ nq q. R.inner h i (sym (links_flip.face_else h np nq) ∙ q)))

  -- places stay
  same_place : (v : ℕ) → place (flip L e) v ≡ place L v
  unfolding flip
  same_place v = refl

  -- where a half starts at the start of an old one, its place is on the ring
  moved : (h g : ℕ) → (flip L e).origin h ≡ L.origin g → Inside H g → place (flip L e) ((flip L e).origin h) ≡ H.p (label H (flip L e) h)
  moved h g q i = same_place ((flip L e).origin h) ∙ ap (place L) q ∙ R.at g i ∙ ap (λ v. H.p (H.lab v)) (sym q)

  -- halves in the hole start at places of the ring
  flip_keeps_places : (h : ℕ) → Inside H h → place (flip L e) ((flip L e).origin h) ≡ H.p (label H (flip L e) h)
  flip_keeps_places h i =
      let Ok = λ (x : ℕ). place (flip L e) ((flip L e).origin x) ≡ H.p (label H (flip L e) x) in
      cases_to Ok e h (moved e ep links_flip.origin_e i_ep)
      (λ ne. cases_to Ok t h (moved t tp links_flip.origin_t i_tp) (λ nt. moved h h (links_flip.origin_else h ne nt) i))

  -- a half outside the hole is none of the six
  none_of_six : (h : ℕ) → H.inside h ≡ false → Out e t en ep tn tp h
  none_of_six h o = record { na = not_here e ie; nb = not_here t it; nc = not_here en i_en; nd = not_here ep i_ep; ne = not_here tn i_tn; nf = not_here tp i_tp }
    where
      not_here : (x : ℕ) → Inside H x → h ≢ x
      not_here x i q = both_ways (H.inside x) (ap H.inside (sym q) ∙ o) i

  -- a flip changes nothing outside the hole
  pub flip_framed : Framed H L (flip L e)
  unfolding flip
  flip_framed = record {
    n = refl;
    e = refl;
    f = refl;
    x = λ v. refl;
    y = λ v. refl;
    next = λ h o. links_flip.next_else h (none_of_six h o);
    prev = λ h o. links_flip.prev_else h (none_of_six h o);
    face = λ h o. let n = none_of_six h o in links_flip.face_else h n.nd n.nf;
    origin = λ h o. let n = none_of_six h o in links_flip.origin_else h n.na n.nb;
  }

  -- the flip of an edge keeps the region, if it is not legal where faces are to turn left
  pub flip_region : (H.turning ≡ true → pos 0 <ℤ C (H.p (label H L e)) (H.p (label H L en)) (H.p (label H L ep)) (H.p (label H L tp))) → Region H (flip L e)
  flip_region bad = record {
    linked = flip_keeps_links;
    below = λ k l. subst (λ n. k < n) (sym flip_framed.e) (R.below k l);
    face_below = λ g l. subst (λ n. g < n) (sym flip_framed.f) (R.face_below g l);
    live = R.live;
    inner = flip_keeps_inner;
    mesh = flip_keeps_mesh;
    at = flip_keeps_places;
    left = λ turning.
        stay_left ℕ ℕ_discrete (Inside H) L.next rev (label H L) H.size (λ a b. H.border a b ≡ true) R.mesh
        (flip L e).next (label H (flip L e)) e ie it (goes_to H L R e ie) (comes_from H L R e it) flip_in H.p (R.left turning) (bad turning);
  }
