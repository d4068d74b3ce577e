-- How many edges end at an entry, and how many inner faces are about it, by its spokes.
use Rattle.std.proofs.Common.{◌≡◌, ℕ, zero, suc, ◌+◌, ◌*◌, ◌/◌, ◌<◌, ◌≤◌, Bool, true, false, ◌&&◌, ltb, ◌≢◌, ◌⊎◌, Decides, sym, refl, ap, ◌∙◌, subst, inl, inr, le_trans, arith}
use Rattle.std.proofs.lemmas.Bool.{cases_lt}
use Rattle.links.specs.Links.{Links, rev, halves, to, walk}
use Rattle.links.specs.Rules.{Sound}
use Rattle.links.proofs.Halves.{rev_rev, rev_even}
use Rattle.links.proofs.Decide.{dec_eq, dec_nat_lt, dec_and, dec_or, never}
use Rattle.planar.specs.Star.{spoke, Ring}
use Rattle.planar.proofs.Views.{ranges_of, weave_of}
use Rattle.planar.proofs.Rings.{spoke_in, spoke_origin}
use Rattle.surgery.specs.Cleaned.{Three}
use Rattle.surgery.specs.Sound.{star_of}
use Rattle.surgery.specs.Sweep.{number}
use Rattle.surgery.specs.Theorems.{AllLinked}
use Rattle.surgery.proofs.Counting.{numbered}
use Rattle.erasure.specs.Spokes.{spoked}
use Rattle.erasure.proofs.FlipMesh.{which_half}
use Rattle.erasure.proofs.Finish.{in_edges, in_halves}

-- the spokes of v in L: all halves out of v, each once
pub record Spokes (L : Links) (v size : ℕ) (spoke : ℕ → ℕ) : Type 0 where
  pub below : (i : ℕ) → i < size → spoke i < halves L
  pub from : (i : ℕ) → i < size → L.origin (spoke i) ≡ v
  pub once : (i j : ℕ) → i < size → j < size → spoke i ≡ spoke j → i ≡ j
  pub every : (h : ℕ) → h < halves L → L.origin h ≡ v → (i : ℕ) × (i < size) × (spoke i ≡ h)

-- the spokes of a ring, counted
pub ring_spokes : (m : Links) → Sound m → (v s : ℕ) → s < halves m → m.origin s ≡ v → (size : ℕ) → Ring m s size → Spokes m v size (spoke m s)
ring_spokes m sd v s sl e size r = record {
  below = λ i _. spoke_in m (ranges_of m sd) (weave_of m sd) s sl i;
  from = λ i _. spoke_origin m (ranges_of m sd) (weave_of m sd) s sl i ∙ e;
  once = λ i j il jl q. elim (cases_lt i j) [
    | inl b ↦ absurd (r.apart i j b jl q)
    | inr b ↦ elim (cases_lt j i) [ inl c ↦ absurd (r.apart j i c il (sym q)) | inr c ↦ omega arith ]
  ];
  every = λ h l q. r.every h l (q ∙ sym e);
}

-- an edge below the count that ends at v
pub dec_spoked : (L : Links) (v k : ℕ) → Decides (ltb k L.e && spoked L v k) ((k < L.e) × ((L.origin (2 * k) ≡ v) ⊎ (L.origin (2 * k + 1) ≡ v)))
dec_spoked L v k = dec_and (dec_nat_lt k L.e) (dec_or (dec_eq (L.origin (2 * k)) v) (dec_eq (L.origin (2 * k + 1)) v))

-- the edge of a half that starts, or ends, at v
pub spoked_half : (L : Links) (v h : ℕ) → h < halves L → (L.origin h ≡ v) ⊎ (to L h ≡ v) → (ltb (h / 2) L.e && spoked L v (h / 2)) ≡ true
spoked_half L v h l e = (dec_spoked L v (h / 2)).1 (omega arith, ends (which_half h (h / 2) refl) e)
  where
    ends : (h ≡ 2 * (h / 2)) ⊎ (h ≡ rev (2 * (h / 2))) → (L.origin h ≡ v) ⊎ (to L h ≡ v) → (L.origin (2 * (h / 2)) ≡ v) ⊎ (L.origin (2 * (h / 2) + 1) ≡ v)
    ends (inl q) (inl e) = inl (ap L.origin (sym q) ∙ e)
    ends (inl q) (inr e) = inr (ap L.origin (sym (ap rev q ∙ rev_even (h / 2))) ∙ e)
    ends (inr q) (inl e) = inr (ap L.origin (sym (q ∙ rev_even (h / 2))) ∙ e)
    ends (inr q) (inr e) = inl (ap L.origin (sym (ap rev q ∙ rev_rev (2 * (h / 2)))) ∙ e)

-- and such an edge has a half out of v
pub half_out : (L : Links) (v k : ℕ) → (ltb k L.e && spoked L v k) ≡ true → (h : ℕ) × (h < halves L) × (L.origin h ≡ v) × (h / 2 ≡ k)
half_out L v k t = let d = (dec_spoked L v k).0 t in elim d.1 [ inl e ↦ (2 * k, even d.0, e, omega arith) | inr e ↦ (2 * k + 1, odd d.0, e, omega arith) ]
  where
    even : k < L.e → 2 * k < halves L
    even l = omega arith

    odd : k < L.e → 2 * k + 1 < halves L
    odd l = omega arith

-- two halves of one edge are the same, or the two of it
pub same_edge : (h k : ℕ) → h / 2 ≡ k / 2 → (h ≡ k) ⊎ (h ≡ rev k)
same_edge h k q = go (which_half h (k / 2) q) (which_half k (k / 2) refl)
  where
    go : (h ≡ 2 * (k / 2)) ⊎ (h ≡ rev (2 * (k / 2))) → (k ≡ 2 * (k / 2)) ⊎ (k ≡ rev (2 * (k / 2))) → (h ≡ k) ⊎ (h ≡ rev k)
    go (inl p) (inl r) = inl (p ∙ sym r)
    go (inl p) (inr r) = inr (p ∙ sym (ap rev r ∙ rev_rev (2 * (k / 2))))
    go (inr p) (inl r) = inr (p ∙ ap rev (sym r))
    go (inr p) (inr r) = inl (p ∙ sym r)

-- a face about v is an inner one, with v at one of its corners
pub dec_star : (L : Links) (v g : ℕ) → Decides (star_of L v g)
    (((0 < g) × (g < L.f)) × ((L.origin (L.adj g) ≡ v) ⊎ ((L.origin (L.next (L.adj g)) ≡ v) ⊎ (L.origin (L.next (L.next (L.adj g))) ≡ v))))
dec_star L v g =
    dec_and (dec_and (dec_nat_lt 0 g) (dec_nat_lt g L.f))
    (dec_or (dec_eq (L.origin (L.adj g)) v) (dec_or (dec_eq (L.origin (L.next (L.adj g))) v) (dec_eq (L.origin (L.next (L.next (L.adj g)))) v)))

-- where 0 is not dead, fewer than all are dead
pub number_below : (dead : ℕ → Bool) → dead 0 ≡ false → (k : ℕ) → 0 < k → number dead k < k
number_below dead z zero l = absurd (omega arith)
number_below dead z (suc zero) l = none_dead (dead 0) z
  where
    none_dead : (b : Bool) → b ≡ false → elim b [ true ↦ suc 0 | false ↦ 0 ] < 1
    none_dead true e = never (sym e)
    none_dead false e = omega arith
number_below dead z (suc (suc k)) l = go (dead (suc k)) (number_below dead z (suc k) (omega arith))
  where
    go : (b : Bool) → number dead (suc k) < suc k → elim b [ true ↦ suc (number dead (suc k)) | false ↦ number dead (suc k) ] < suc (suc k)
    go true h = omega arith
    go false h = omega arith

module _ (L : Links) (v size : ℕ) (spoke : ℕ → ℕ) (A : Spokes L v size spoke) where
  -- there are as many edges at v as spokes
  pub edges_at : ((h : ℕ) → h < halves L → L.origin h ≢ to L h) → (bound : ℕ) → L.e ≤ bound → number (λ k. ltb k L.e && spoked L v k) bound ≡ size
  edges_at ends bound b = numbered (λ k. ltb k L.e && spoked L v k) bound size (λ i. spoke i / 2) (record {
    low = λ i l. edge_below (spoke i) (A.below i l);
    is_dead = λ i l. spoked_half L v (spoke i) (A.below i l) (inl (A.from i l));
    once = λ i j il jl q. A.once i j il jl (elim (same_edge (spoke i) (spoke j) q) [
      | inl e ↦ e
      | inr e ↦ absurd (ends (spoke j) (A.below j jl) (A.from j jl ∙ sym (A.from i il) ∙ ap L.origin e))
    ]);
    all = λ k _ d. let h = half_out L v k d in let i = A.every h.0 h.1 h.2 in (i.0, (i.1, ap (λ x. x / 2) i.2 ∙ h.3));
  })
    where
      edge_below : (h : ℕ) → h < halves L → h / 2 < bound
      edge_below h l = omega arith

-- of three halves that start at different entries, one is told by its start
by_corner : (o : ℕ → ℕ) (a b c h k : ℕ) → o a ≢ o b → o b ≢ o c → o c ≢ o a
    → (a ≡ h) ⊎ ((b ≡ h) ⊎ (c ≡ h)) → (a ≡ k) ⊎ ((b ≡ k) ⊎ (c ≡ k)) → o h ≡ o k → h ≡ k
by_corner o a b c h k ab bc ca (inl p) (inl q) e = sym p ∙ q
by_corner o a b c h k ab bc ca (inl p) (inr (inl q)) e = absurd (ab (ap o p ∙ e ∙ ap o (sym q)))
by_corner o a b c h k ab bc ca (inl p) (inr (inr q)) e = absurd (ca (sym (ap o p ∙ e ∙ ap o (sym q))))
by_corner o a b c h k ab bc ca (inr (inl p)) (inl q) e = absurd (ab (sym (ap o p ∙ e ∙ ap o (sym q))))
by_corner o a b c h k ab bc ca (inr (inl p)) (inr (inl q)) e = sym p ∙ q
by_corner o a b c h k ab bc ca (inr (inl p)) (inr (inr q)) e = absurd (bc (ap o p ∙ e ∙ ap o (sym q)))
by_corner o a b c h k ab bc ca (inr (inr p)) (inl q) e = absurd (ca (ap o p ∙ e ∙ ap o (sym q)))
by_corner o a b c h k ab bc ca (inr (inr p)) (inr (inl q)) e = absurd (bc (sym (ap o p ∙ e ∙ ap o (sym q))))
by_corner o a b c h k ab bc ca (inr (inr p)) (inr (inr q)) e = sym p ∙ q

-- all below the counts lives, and inner faces have three halves
module _ (L : Links) (J : AllLinked L) (T : Three L (λ k. k < L.e)) where
  -- the halves of an inner face, from the one that it names
  abbrev OfFace : ℕ → ℕ → Type 0
  OfFace g h = (L.adj g ≡ h) ⊎ ((L.next (L.adj g) ≡ h) ⊎ (L.next (L.next (L.adj g)) ≡ h))

  walked : (g : ℕ) → L.next (L.next (L.next (L.adj g))) ≡ L.adj g → (j : ℕ) → OfFace g (walk L.next j (L.adj g))
  walked g t zero = inl refl
  walked g t (suc j) = elim (walked g t j) [
    | inl q ↦ inr (inl (ap L.next q))
    | inr r ↦ elim r [ inl q ↦ inr (inr (ap L.next q)) | inr q ↦ inl (sym t ∙ ap L.next q) ]
  ]

  of_face_live : (h : ℕ) → h < halves L → L.face h ≢ 0 → OfFace (L.face h) h
  of_face_live h l d =
      let e = in_edges h L.e l in
      let g = J.face_live h e in
      let r = J.along (L.face h) h g e refl in
      subst (OfFace (L.face h)) r.1 (walked (L.face h) (T (L.adj (L.face h)) (J.adj_live _ g) (λ q. d (sym (J.adj_face _ g) ∙ q))).1 r.0)

  module _ (v : ℕ) where
    -- an inner face of a half out of v is about v
    pub starred : (h : ℕ) → h < halves L → L.origin h ≡ v → 0 < L.face h → star_of L v (L.face h) ≡ true
    starred h l e p = (dec_star L v (L.face h)).1 (
      (p, J.face_live h (in_edges h L.e l)),
      elim (of_face_live h l (λ z. omega (arith, p, z))) [
        | inl q ↦ inl (ap L.origin q ∙ e)
        | inr r ↦ inr (elim r [ inl q ↦ inl (ap L.origin q ∙ e) | inr q ↦ inr (ap L.origin q ∙ e) ])
      ],
    )

    -- a face about v has a half out of v
    pub spoke_out : (g : ℕ) → star_of L v g ≡ true → (h : ℕ) × (h < halves L) × (L.origin h ≡ v) × (L.face h ≡ g)
    spoke_out g t =
        let d = (dec_star L v g).0 t in
        let l0 = J.adj_live g d.0.1 in
        let l1 = J.next_live _ l0 in
        let f0 = J.adj_face g d.0.1 in
        let f1 = J.face_next _ l0 ∙ f0 in
        elim d.1 [
          | inl q ↦ (L.adj g, in_halves _ L.e l0, q, f0)
          | inr r ↦ elim r [
            | inl q ↦ (L.next (L.adj g), in_halves _ L.e l1, q, f1)
            | inr q ↦ (L.next (L.next (L.adj g)), in_halves _ L.e (J.next_live _ l1), q, J.face_next _ l1 ∙ f1)
          ]
        ]

    -- and only one
    pub lone : (h k : ℕ) → h < halves L → k < halves L → L.origin h ≡ v → L.origin k ≡ v → 0 < L.face h → L.face h ≡ L.face k → h ≡ k
    lone h k hl kl e q p f =
        let g = J.face_live h (in_edges h L.e hl) in
        let a = L.adj (L.face h) in
        let la = J.adj_live (L.face h) g in
        let lb = J.next_live a la in
        let d : L.face h ≢ 0 = λ z. omega (arith, p, z) in
        by_corner L.origin a (L.next a) (L.next (L.next a)) h k (steps a la) (steps (L.next a) lb)
        (λ z. steps (L.next (L.next a)) (J.next_live (L.next a) lb) (z ∙ ap L.origin (sym (T a la (λ y. d (sym (J.adj_face (L.face h) g) ∙ y))).1)))
        (of_face_live h hl d) (subst (λ g. OfFace g k) (sym f) (of_face_live k kl (λ z. d (f ∙ z)))) (e ∙ sym q)
      where
        -- a half and its next start at different entries
        steps : (x : ℕ) → x / 2 < L.e → L.origin x ≢ L.origin (L.next x)
        steps x l z = J.ends x l (z ∙ J.to_next x l)

module _ (L : Links) (v size : ℕ) (spoke : ℕ → ℕ) (A : Spokes L v size spoke) (J : AllLinked L) (T : Three L (λ k. k < L.e)) where
  -- there are as many faces about v as inner ones among its spokes
  pub faces_at : (inner : ℕ) → inner ≤ size → ((i : ℕ) → i < inner → 0 < L.face (spoke i)) → ((i : ℕ) → i < size → inner ≤ i → L.face (spoke i) ≡ 0)
      → (bound : ℕ) → L.f ≤ bound → number (star_of L v) bound ≡ inner
  faces_at inner some inside outside bound b = numbered (star_of L v) bound inner (λ i. L.face (spoke i)) (record {
    low = λ i l. le_trans ((dec_star L v (L.face (spoke i))).0 (dead i l)).0.1 b;
    is_dead = dead;
    once = λ i j il jl q. A.once i j (omega arith) (omega arith) (lone L J T v (spoke i) (spoke j) (A.below i (omega arith)) (A.below j (omega arith)) (A.from i (omega arith)) (A.from j (omega arith)) (inside i il) q);
    all = λ g _ d.
        let h = spoke_out L J T v g d in
        let i = A.every h.0 h.1 h.2 in
        let q : L.face (spoke i.0) ≡ g = ap L.face i.2 ∙ h.3 in
        (i.0, (elim (cases_lt i.0 inner) [ inl l ↦ l | inr l ↦ absurd (omega (arith, sym q ∙ outside i.0 i.1 l, ((dec_star L v g).0 d).0.0)) ], q));
  })
    where
      dead : (i : ℕ) → i < inner → star_of L v (L.face (spoke i)) ≡ true
      dead i l = starred L J T v (spoke i) (A.below i (omega arith)) (A.from i (omega arith)) (inside i l)
