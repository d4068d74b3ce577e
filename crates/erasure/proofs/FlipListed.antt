-- The test of an edge in the hole, and the list after its flip.
use Rattle.std.proofs.Common.{◌≡◌, ℕ, ◌+◌, ◌*◌, ◌/◌, ◌≤◌, true, false, not, T, eqb, ◌⊎◌, List, ◌∷◌, length, ℤ, pos, ◌≤ℤ◌, ◌<ℤ◌, sym, refl, ap, ◌∙◌, subst, inl, inr, arith}
use native.Mathlib.Decide.{ℕ_discrete}
use lib.Signed.{lt_z, lt_z_no}
use Rattle.std.proofs.lemmas.Bool.{cond-false, ne_eqb, eqb-true, or_cases, or_right}
use Rattle.plane.specs.Plane.{Pt, C}
use Rattle.plane.specs.Vec.{lift}
use Rattle.plane.proofs.Circles.{flip_circle}
use Rattle.plane.proofs.Places.{circle_is}
use Rattle.links.specs.Links.{Links, rev, place}
use Rattle.links.proofs.Decide.{dec_lt_z}
use Rattle.links.proofs.Halves.{rev_rev, rev_half}
use Rattle.delaunay.specs.Mesh.{Relisted, Legal, Lawful}
use Rattle.delaunay.proofs.Mesh.{stay_legal}
use Rattle.surgery.specs.Update.{flip}
use Rattle.erasure.specs.Legalize.{contains, push_if_not_contained, around, should_flip}
use Rattle.erasure.specs.Region.{Hole, Inside, label, LawfulIn, Region, Listed}
use Rattle.erasure.proofs.FlipMesh.{which_half}
use Rattle.erasure.proofs.Pushes.{push_old, push_new, push_all, push_length}
use Rattle.erasure.proofs.FlipRegion.{triangle, goes_to, comes_from, flip_in}

-- circles of equal points
circles : {a a' b b' c c' d d' : Pt} → a ≡ a' → b ≡ b' → c ≡ c' → d ≡ d' → C a b c d ≡ C a' b' c' d'
circles p q r s = λ i. C (p i) (q i) (r i) (s i)

-- a failed test
pub not_positive : (z : ℤ) → lt_z (pos 0) z ≡ false → z ≤ℤ pos 0
not_positive z q = lt_z_no (subst (λ b. T (not b)) (sym q) tt)

-- by circles, or by determinants
circle_law : (H : Hole) (nx lab : ℕ → ℕ) (h : ℕ) → Lawful ℕ nx rev lab H.p h → Legal ℕ nx rev lab (λ i. lift (H.p i)) h
circle_law H nx lab h = subst (λ z. z ≤ℤ pos 0) (sym (circle_is _ _ _ _))

module _ (H : Hole) (L : Links) (R : Region H L) where
  -- a legal edge is legal from its other half
  pub lawful_twin : (h : ℕ) → Inside H h → Inside H (rev h) → LawfulIn H L h → LawfulIn H L (rev h)
  lawful_twin h i r =
      subst (λ z. z ≤ℤ pos 0)
      (flip_circle _ _ _ _ ∙ circles (ap H.p (sym (goes_to H L R h i))) (ap H.p (sym (comes_from H L R h r))) refl (ap (λ x. H.p (label H L (L.next (L.next x)))) (sym (rev_rev h))))

module _ (H : Hole) (L : Links) (R : Region H L) (k : ℕ) (ie : Inside H (2 * k)) (it : Inside H (rev (2 * k))) where
  abbrev e : ℕ
  e = 2 * k

  -- C of its four corners
  abbrev pub excess : ℤ
  excess = C (H.p (label H L e)) (H.p (label H L (L.next e))) (H.p (label H L (L.next (L.next e)))) (H.p (label H L (L.next (L.next (rev e)))))

  -- the place of a far corner
  far_place : (h : ℕ) → Inside H h → place L (L.origin (L.prev h)) ≡ H.p (label H L (L.next (L.next h)))
  far_place h i = ap (λ x. place L (L.origin x)) (sym (triangle H L R h i)) ∙ R.at (L.next (L.next h)) (R.mesh.stays (L.next h) (R.mesh.stays h i))

  -- the test goes by the circle
  pub tested : should_flip L k ≡ lt_z (pos 0) excess
  tested =
      cond-false (eqb (L.face e) 0) _ _ (ne_eqb (L.face e) 0 (R.inner e ie)) ∙ cond-false (eqb (L.face (rev e)) 0) _ _ (ne_eqb (L.face (rev e)) 0 (R.inner (rev e) it))
      ∙ ap (lt_z (pos 0)) (circles (R.at e ie) (R.at (rev e) it ∙ ap H.p (goes_to H L R e ie)) (far_place e ie) (far_place (rev e) it))

  -- where it says no, the edge is legal
  pub said_no : should_flip L k ≡ false → (h : ℕ) → h / 2 ≡ k → LawfulIn H L h
  said_no s h q = elim (which_half h k q) [
    | inl x ↦ subst (LawfulIn H L) (sym x) low
    | inr x ↦ subst (LawfulIn H L) (sym x) (lawful_twin H L R e ie it low)
  ]
    where
      low : LawfulIn H L e
      low = not_positive excess (sym tested ∙ s)

  -- where it says yes, it is not
  pub said_yes : should_flip L k ≡ true → pos 0 <ℤ excess
  said_yes s = (dec_lt_z (pos 0) excess).0 (sym tested ∙ s)

  -- ---- the list after its flip
  module _ (l : List ℕ) where
    abbrev a : ℕ
    a = L.next e / 2

    abbrev b : ℕ
    b = L.prev e / 2

    abbrev c : ℕ
    c = L.next (rev e) / 2

    abbrev d : ℕ
    d = L.prev (rev e) / 2

    abbrev l1 : List ℕ
    l1 = push_if_not_contained l a

    abbrev l2 : List ℕ
    l2 = push_if_not_contained l1 b

    abbrev l3 : List ℕ
    l3 = push_if_not_contained l2 c

    -- it has at most four more
    pub around_length : length (around L k l) ≤ length l + 4
    around_length = omega (arith, push_length l a, push_length l1 b, push_length l2 c, push_length l3 d)

    -- all but the edge stay, and the four around it are listed
    relisted : Relisted ℕ e L.next rev (λ h. contains (k ∷ l) (h / 2) ≡ true) (λ h. contains (around L k l) (h / 2) ≡ true)
    relisted = record {
      keeps = λ h x ne nt. elim (or_cases (eqb k (h / 2)) (contains l (h / 2)) x) [
        | inl q ↦ elim (which_half h k (sym (eqb-true k (h / 2) q))) [ inl y ↦ absurd (ne y) | inr y ↦ absurd (nt y) ]
        | inr q ↦ push_old l3 d (h / 2) (push_old l2 c (h / 2) (push_old l1 b (h / 2) (push_old l a (h / 2) q)))
      ];
      twin = λ h x. subst (λ j. contains (around L k l) j ≡ true) (sym (rev_half h)) x;
      en = push_old l3 d a (push_old l2 c a (push_old l1 b a (push_new l a)));
      ep = at_prev e ie (push_old l3 d b (push_old l2 c b (push_new l1 b)));
      tn = push_old l3 d c (push_new l2 c);
      tp = at_prev (rev e) it (push_new l3 d);
    }
      where
        at_prev : (h : ℕ) → Inside H h → contains (around L k l) (L.prev h / 2) ≡ true → contains (around L k l) (L.next (L.next h) / 2) ≡ true
        at_prev h i = subst (λ x. contains (around L k l) (x / 2) ≡ true) (sym (triangle H L R h i))

    -- an edge in the hole is listed or legal, and a listed one has a half in the hole
    pub flip_listed : pos 0 <ℤ excess → Listed H L (k ∷ l) → Listed H (flip L e) (around L k l)
    flip_listed bad J = record {
      legal = λ h i r. elim (stays h i r) [ inl x ↦ inl x | inr x ↦ inr (subst (λ z. z ≤ℤ pos 0) (circle_is _ _ _ _) x) ];
      sided = push_all Sided l3 d (push_all Sided l2 c (push_all Sided l1 b (push_all Sided l a old (in_hole _ (next_in e ie))) (in_hole _ (prev_in e ie))) (in_hole _ (next_in (rev e) it))) (in_hole _ (prev_in (rev e) it));
    }
      where
        stays : (h : ℕ) → Inside H h → Inside H (rev h) → (contains (around L k l) (h / 2) ≡ true) ⊎ Legal ℕ (flip L e).next rev (label H (flip L e)) (λ i. lift (H.p i)) h
        stays =
            stay_legal ℕ ℕ_discrete (Inside H) L.next rev (label H L) H.size (λ a b. H.border a b ≡ true) R.mesh
            (flip L e).next (label H (flip L e)) e ie it (goes_to H L R e ie) (comes_from H L R e it) (flip_in H L R e ie it)
            (λ i. lift (H.p i)) (λ h. contains (k ∷ l) (h / 2) ≡ true) (λ h. contains (around L k l) (h / 2) ≡ true) relisted
            (λ h i r. elim (J.legal h i r) [ inl x ↦ inl x | inr x ↦ inr (circle_law H L.next (label H L) h x) ])
            (subst (λ z. pos 0 <ℤ z) (sym (circle_is _ _ _ _)) bad)

        Sided : ℕ → Type 0
        Sided j = Inside H (2 * j) ⊎ Inside H (rev (2 * j))

        old : (j : ℕ) → contains l j ≡ true → Sided j
        old j x = J.sided j (or_right (eqb k j) (contains l j) x)

        in_hole : (h : ℕ) → Inside H h → Sided (h / 2)
        in_hole h i = elim (which_half h (h / 2) refl) [ inl q ↦ inl (subst (Inside H) q i) | inr q ↦ inr (subst (Inside H) q i) ]

        next_in : (h : ℕ) → Inside H h → Inside H (L.next h)
        next_in = R.mesh.stays

        prev_in : (h : ℕ) → Inside H h → Inside H (L.prev h)
        prev_in h i = subst (Inside H) (triangle H L R h i) (next_in _ (next_in h i))
