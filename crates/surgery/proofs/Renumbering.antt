-- What other numbers carry over, and how they compose.
use Rattle.std.proofs.Common.{◌≡◌, ℕ, ◌/◌, ◌≢◌, ◌⊎◌, pos, ◌≤ℤ◌, ◌<ℤ◌, sym, refl, ap, ◌∙◌, subst, inl, inr}
use mathlib.Core.Path.{subst₃}
use Rattle.plane.specs.Plane.{Pt, S, C}
use Rattle.links.specs.Links.{Links, to, place}
use Rattle.links.specs.Rules.{On as IsOnSegment, corner0, corner1, corner2}
use Rattle.surgery.specs.Renamed.{Names, Renumbered}
use Rattle.surgery.specs.Shaped.{Shaped, Ruled}
use Rattle.surgery.specs.Sweep.{counted}
use Rattle.surgery.specs.Theorems.{On}
use Rattle.surgery.specs.Cleaned.{Three, CarriesOver}
use Rattle.surgery.proofs.Updates.{rev_live}
use Rattle.surgery.proofs.Roots.{Unrooted, Half, unroot, root}
use Rattle.surgery.proofs.Renaming.{renamed}

-- two ways to say the same
abbrev pub Iff : (ℕ → Type 0) → (ℕ → Type 0) → Type 0
Iff P Q = (k : ℕ) → (P k → Q k) × (Q k → P k)

pub ident : (P : ℕ → Type 0) → Iff P P
ident P k = (λ l. l, λ l. l)

alike : (P Q : ℕ → Type 0) → Iff P Q → Names P Q (λ x. x) (λ x. x)
alike P Q i = record { there = λ x. (i x).0; back = λ x. (i x).1; back_there = λ _ _. refl; there_back = λ _ _. refl }

-- what lives may be said in other words, and the counts may change
pub reworded : {L : Links} {V E F V' E' F' : ℕ → Type 0} (n e f : ℕ) → Iff V V' → Iff E E' → Iff F F' → Unrooted L V E F → Renumbered L (counted n e f L) V E F V' E' F'
reworded {V} {E} {F} {V'} {E'} {F'} n e f iv ie if W = record {
  pv = λ v. v;
  qv = λ v. v;
  ph = λ h. h;
  qh = λ h. h;
  pf = λ g. g;
  qf = λ g. g;
  renamed = record {
    entries = alike V V' iv;
    halves = alike (Half E) (Half E') (λ h. ie (h / 2));
    faces = alike F F' if;
    inner = λ _ _ n. n;
    revs = λ _ _. refl;
    nexts = λ _ _. refl;
    prevs = λ _ _. refl;
    sides = λ _ _. refl;
    origins = λ _ _. refl;
    out_live = λ v l. (ie _).0 (W.out_live v ((iv v).1 l));
    out_origin = λ v l. W.out_origin v ((iv v).1 l);
    adj_live = λ g l. (ie _).0 (W.adj_live g ((if g).1 l));
    adj_face = λ g l. W.adj_face g ((if g).1 l);
  };
  places = λ _ _. refl;
  outer = refl;
  only_outer = λ _ _ q. q;
}

-- one renaming of a kind of records after another
names_after : {P Q R : ℕ → Type 0} {p q p' q' : ℕ → ℕ} → Names P Q p q → Names Q R p' q' → Names P R (λ x. p' (p x)) (λ y. q (q' y))
names_after {q = q} {p' = p'} A B = record {
  there = λ x l. B.there _ (A.there x l);
  back = λ y l. A.back _ (B.back y l);
  back_there = λ x l. ap q (B.back_there _ (A.there x l)) ∙ A.back_there x l;
  there_back = λ y l. ap p' (A.there_back _ (B.back y l)) ∙ B.there_back y l;
}

-- one change of numbers after another
pub after : {L M N : Links} {V E F V' E' F' V'' E'' F'' : ℕ → Type 0} → Renumbered L M V E F V' E' F' → Renumbered M N V' E' F' V'' E'' F'' → Renumbered L N V E F V'' E'' F''
after A B =
    let a = A.renamed in
    let b = B.renamed in
    record {
      pv = λ v. B.pv (A.pv v);
      qv = λ v. A.qv (B.qv v);
      ph = λ h. B.ph (A.ph h);
      qh = λ h. A.qh (B.qh h);
      pf = λ g. B.pf (A.pf g);
      qf = λ g. A.qf (B.qf g);
      renamed = record {
        entries = names_after a.entries b.entries;
        halves = names_after a.halves b.halves;
        faces = names_after a.faces b.faces;
        inner = λ g l n. a.inner _ (b.faces.back g l) (b.inner g l n);
        revs = λ h l. b.revs _ (a.halves.there h l) ∙ ap B.ph (a.revs h l);
        nexts = λ h l. b.nexts _ (a.halves.there h l) ∙ ap B.ph (a.nexts h l);
        prevs = λ h l. b.prevs _ (a.halves.there h l) ∙ ap B.ph (a.prevs h l);
        sides = λ h l. b.sides _ (a.halves.there h l) ∙ ap B.pf (a.sides h l);
        origins = λ h l. b.origins _ (a.halves.there h l) ∙ ap B.pv (a.origins h l);
        out_live = b.out_live;
        out_origin = b.out_origin;
        adj_live = b.adj_live;
        adj_face = b.adj_face;
      };
      places = λ v l. B.places _ (a.entries.there v l) ∙ A.places v l;
      outer = ap B.pf A.outer ∙ B.outer;
      only_outer = λ g l q. A.only_outer g l (B.only_outer _ (a.faces.there g l) q);
    }

-- what L' has of L, under the numbers R
module _ {L L' : Links} {V E F V' E' F' : ℕ → Type 0} (R : Renumbered L L' V E F V' E' F') (W : Unrooted L V E F) where
  -- the link rules
  pub unrooted_after : Unrooted L' V' E' F'
  unrooted_after = renamed _ _ _ _ _ _ _ _ _ _ _ _ _ _ R.renamed W

  -- what holds of each renamed half, or entry, holds of each
  by_half : (T : ℕ → Type 0) → ((x : ℕ) → E (x / 2) → T (R.ph x)) → (h : ℕ) → E' (h / 2) → T h
  by_half T t h l = let N = R.renamed.halves in subst T (N.there_back h l) (t (R.qh h) (N.back h l))

  by_entry : (T : ℕ → Type 0) → ((x : ℕ) → V x → T (R.pv x)) → (v : ℕ) → V' v → T v
  by_entry T t v l = let N = R.renamed.entries in subst T (N.there_back v l) (t (R.qv v) (N.back v l))

  -- different halves, and entries, get different numbers
  half_one : (x y : ℕ) → E (x / 2) → E (y / 2) → R.ph x ≡ R.ph y → x ≡ y
  half_one x y lx ly q = let N = R.renamed.halves in sym (N.back_there x lx) ∙ ap R.qh q ∙ N.back_there y ly

  entry_one : (x y : ℕ) → V x → V y → R.pv x ≡ R.pv y → x ≡ y
  entry_one x y lx ly q = let N = R.renamed.entries in sym (N.back_there x lx) ∙ ap R.qv q ∙ N.back_there y ly

  -- the outer face stays the outer face, and no other becomes it
  inner_before : (x : ℕ) → E (x / 2) → L'.face (R.ph x) ≢ 0 → L.face x ≢ 0
  inner_before x l n q = n (R.renamed.sides x l ∙ ap R.pf q ∙ R.outer)

  outer_before : (x : ℕ) → E (x / 2) → L'.face (R.ph x) ≡ 0 → L.face x ≡ 0
  outer_before x l q = R.only_outer _ (W.face_live x l) (sym (R.renamed.sides x l) ∙ q)

  -- where a half begins and ends
  to_after : (x : ℕ) → E (x / 2) → to L' (R.ph x) ≡ R.pv (to L x)
  to_after x l = ap L'.origin (R.renamed.revs x l) ∙ R.renamed.origins _ (rev_live E x l)

  from_place : (x : ℕ) → E (x / 2) → place L' (L'.origin (R.ph x)) ≡ place L (L.origin x)
  from_place x l = ap (place L') (R.renamed.origins x l) ∙ R.places _ (W.origin_live x l)

  to_place : (x : ℕ) → E (x / 2) → place L' (to L' (R.ph x)) ≡ place L (to L x)
  to_place x l = ap (place L') (to_after x l) ∙ R.places _ (W.origin_live _ (rev_live E x l))

  ends_before : (x y : ℕ) → E (x / 2) → E (y / 2) → L'.origin (R.ph x) ≡ L'.origin (R.ph y) → L.origin x ≡ L.origin y
  ends_before x y lx ly q = entry_one _ _ (W.origin_live x lx) (W.origin_live y ly) (sym (R.renamed.origins x lx) ∙ q ∙ R.renamed.origins y ly)

  tos_before : (x y : ℕ) → E (x / 2) → E (y / 2) → to L' (R.ph x) ≡ to L' (R.ph y) → to L x ≡ to L y
  tos_before x y lx ly q = entry_one _ _ (W.origin_live _ (rev_live E x lx)) (W.origin_live _ (rev_live E y ly)) (sym (to_after x lx) ∙ q ∙ to_after y ly)

  -- the two halves after a half
  next_after : (x : ℕ) → E (x / 2) → L'.next (R.ph x) ≡ R.ph (L.next x)
  next_after = R.renamed.nexts

  next2_after : (x : ℕ) → E (x / 2) → L'.next (L'.next (R.ph x)) ≡ R.ph (L.next (L.next x))
  next2_after x l = ap L'.next (next_after x l) ∙ next_after _ (W.next_live x l)

  -- the corners of a face
  corners : (T : Pt → Pt → Pt → Type 0) (x : ℕ) → E (x / 2) → T (corner0 L x) (corner1 L x) (corner2 L x) → T (corner0 L' (R.ph x)) (corner1 L' (R.ph x)) (corner2 L' (R.ph x))
  corners T x l t =
      let l1 = W.next_live x l in
      subst₃ T (sym (from_place x l)) (sym (ap (λ h. place L' (L'.origin h)) (next_after x l) ∙ from_place _ l1))
      (sym (ap (λ h. place L' (L'.origin h)) (next2_after x l) ∙ from_place _ (W.next_live _ l1))) t

  -- faces of three halves stay so
  pub three_after : Three L E → Three L' E'
  three_after three = by_half (λ h. L'.face h ≢ 0 → (L'.next h ≢ h) × (L'.next (L'.next (L'.next h)) ≡ h)) (λ x l n. let t = three x l (inner_before x l n) in (
    (λ q. t.0 (half_one _ x (W.next_live x l) l (sym (next_after x l) ∙ q))),
    ap L'.next (next2_after x l) ∙ next_after _ (W.next_live _ (W.next_live x l)) ∙ ap R.ph t.1,
  ))

  -- faces and places
  pub shaped_after : Shaped L V E → Shaped L' V' E'
  shaped_after G = record {
    three = three_after G.three;
    left = by_half (λ h. L'.face h ≢ 0 → pos 0 <ℤ S (corner0 L' h) (corner1 L' h) (corner2 L' h)) (λ x l n. corners (λ a b c. pos 0 <ℤ S a b c) x l (G.left x l (inner_before x l n)));
    empty = λ h v lh lv. by_half (λ h. L'.face h ≢ 0 → C (corner0 L' h) (corner1 L' h) (corner2 L' h) (place L' v) ≤ℤ pos 0)
        (λ x l n. by_entry (λ v. C (corner0 L' (R.ph x)) (corner1 L' (R.ph x)) (corner2 L' (R.ph x)) (place L' v) ≤ℤ pos 0)
        (λ w lw. corners (λ a b c. C a b c (place L' (R.pv w)) ≤ℤ pos 0) x l
        (subst (λ d. C (corner0 L x) (corner1 L x) (corner2 L x) d ≤ℤ pos 0) (sym (R.places w lw)) (G.empty x w l lw (inner_before x l n)))) v lv) h lh;
    right = λ h v lh lv. by_half (λ h. L'.face h ≡ 0 → S (place L' (L'.origin h)) (place L' (to L' h)) (place L' v) ≤ℤ pos 0)
        (λ x l q. by_entry (λ v. S (place L' (L'.origin (R.ph x))) (place L' (to L' (R.ph x))) (place L' v) ≤ℤ pos 0)
        (λ w lw. subst₃ (λ a b c. S a b c ≤ℤ pos 0) (sym (from_place x l)) (sym (to_place x l)) (sym (R.places w lw)) (G.right x w l lw (outer_before x l q))) v lv) h lh;
    places = λ u v lu lv. by_entry (λ u. place L' u ≡ place L' v → u ≡ v) (λ a la. by_entry (λ v. place L' (R.pv a) ≡ place L' v → R.pv a ≡ v)
        (λ b lb q. ap R.pv (G.places a b la lb (sym (R.places a la) ∙ q ∙ R.places b lb))) v lv) u lu;
    only = λ h k lh lk. by_half (λ h. L'.face h ≡ 0 → L'.face k ≡ 0 → L'.origin h ≡ L'.origin k → to L' h ≡ to L' k → h ≡ k)
        (λ x lx. by_half (λ k. L'.face (R.ph x) ≡ 0 → L'.face k ≡ 0 → L'.origin (R.ph x) ≡ L'.origin k → to L' (R.ph x) ≡ to L' k → R.ph x ≡ k)
        (λ y ly fx fy o t. ap R.ph (G.only x y lx ly (outer_before x lx fx) (outer_before y ly fy) (ends_before x y lx ly o) (tos_before x y lx ly t))) k lk) h lh;
  }

  -- rule 6
  pub ruled_after : Ruled L V E → Ruled L' V' E'
  ruled_after G = record {
    apart = by_half (λ h. place L' (L'.origin h) ≢ place L' (to L' h)) (λ x l q. G.apart x l (sym (from_place x l) ∙ q ∙ to_place x l));
    single = λ h k lh lk. by_half (λ h. L'.origin h ≡ L'.origin k → to L' h ≡ to L' k → h ≡ k)
        (λ x lx. by_half (λ k. L'.origin (R.ph x) ≡ L'.origin k → to L' (R.ph x) ≡ to L' k → R.ph x ≡ k)
        (λ y ly o t. ap R.ph (G.single x y lx ly (ends_before x y lx ly o) (tos_before x y lx ly t))) k lk) h lh;
    clear = λ h v lh lv. by_half (λ h. IsOnSegment (place L' (L'.origin h)) (place L' (to L' h)) (place L' v) → (v ≡ L'.origin h) ⊎ (v ≡ to L' h))
        (λ x l. by_entry (λ v. IsOnSegment (place L' (L'.origin (R.ph x))) (place L' (to L' (R.ph x))) (place L' v) → (v ≡ L'.origin (R.ph x)) ⊎ (v ≡ to L' (R.ph x)))
        (λ w lw on. elim (G.clear x w l lw (subst₃ IsOnSegment (from_place x l) (to_place x l) (R.places w lw) on)) [
          | inl q ↦ inl (ap R.pv q ∙ sym (R.renamed.origins x l))
          | inr q ↦ inr (ap R.pv q ∙ sym (to_after x l))
        ]) v lv) h lh;
  }

-- what lives after may be said in other words
pub in_words : {L L' : Links} {V E F V' E' F' V'' E'' F'' : ℕ → Type 0} → Iff V' V'' → Iff E' E'' → Iff F' F'' → Unrooted L V E F
    → Renumbered L L' V E F V' E' F' → Renumbered L L' V E F V'' E'' F''
in_words {L'} iv ie if W R = after R (reworded L'.n L'.e L'.f iv ie if (unrooted_after R W))

-- all of these
pub carries_over : CarriesOver
carries_over L L'' V E F V' E' F' m low R J =
    let W = unroot L (On V) (On E) (On F) m low J in
    (root L'' (On V') (On E') (On F') (unrooted_after R W), shaped_after R W, ruled_after R W)
