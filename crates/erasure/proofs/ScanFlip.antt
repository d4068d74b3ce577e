-- A flip by either half of an edge, as the scan makes it.
use Rattle.std.proofs.Common.{◌≡◌, ℕ, ◌*◌, ◌/◌, ◌%◌, true, ◌≢◌, ◌⊎◌, sym, refl, ap, ◌∙◌, subst, inl, inr, arith}
use Rattle.std.proofs.lemmas.Bool.{cases_eq}
use Rattle.links.specs.Links.{Links, rev}
use Rattle.links.proofs.Halves.{rev_rev}
use Rattle.delaunay.specs.Mesh.{Flipped}
use Rattle.surgery.specs.Update.{flip}
use Rattle.erasure.specs.Region.{Hole, Inside, label, Region, Framed}
use Rattle.erasure.specs.Legalize.{flip_cw}
use Rattle.erasure.proofs.FlipMesh.{by_twin}
use Rattle.erasure.proofs.FlipRegion.{flip_in, flip_framed, flip_region, links_flip}

-- a half is the normalized half of its edge, or the other
pub either_half : (h : ℕ) → (2 * (h / 2) ≡ h) ⊎ (2 * (h / 2) ≡ rev h)
unfolding rev
either_half h = elim (cases_eq (h % 2) 0) [ inl q ↦ inl (omega arith) | inr n ↦ inr (omega arith) ]

-- what the flip of an edge gives, seen from its half e
pub record Turned (H : Hole) (L L' : Links) (e : ℕ) : Type 0 where
  pub region : Region H L'
  pub framed : Framed H L L'
  pub mesh : Flipped ℕ e (rev e) (L.next e) (L.next (L.next e)) (L.next (rev e)) (L.next (L.next (rev e))) L.next L'.next (label H L) (label H L')
  pub origins : (h : ℕ) → h ≢ e → h ≢ rev e → L'.origin h ≡ L.origin h

module _ (H : Hole) (L : Links) (R : Region H L) where
  by_half : (e : ℕ) → Inside H e → Inside H (rev e) → (H.turning ≡ true → ⊥) → Turned H L (flip L e) e
  by_half e ie it calm = record {
    region = flip_region H L R e ie it (λ t. absurd (calm t));
    framed = flip_framed H L R e ie it;
    mesh = flip_in H L R e ie it;
    origins = (links_flip H L R e ie it).origin_else;
  }

  -- the same, seen from the other half
  other_half : (L' : Links) (e g : ℕ) → rev g ≡ e → Turned H L L' e → Turned H L L' g
  other_half L' e g q t = record {
    region = t.region;
    framed = t.framed;
    mesh = subst (λ x. Flipped ℕ x (rev g) (L.next x) (L.next (L.next x)) (L.next (rev g)) (L.next (L.next (rev g))) L.next L'.next (label H L) (label H L')) (sym back)
        (subst (λ x. Flipped ℕ (rev e) x (L.next (rev e)) (L.next (L.next (rev e))) (L.next x) (L.next (L.next x)) L.next L'.next (label H L) (label H L')) (sym q)
        (by_twin ℕ e (rev e) _ _ _ _ L.next L'.next (label H L) (label H L') t.mesh));
    origins = λ h a b. t.origins h (λ r. b (r ∙ sym q)) (λ r. a (r ∙ sym back));
  }
    where
      back : g ≡ rev e
      back = sym (rev_rev g) ∙ ap rev q

  pub turned : (g : ℕ) → Inside H g → Inside H (rev g) → (H.turning ≡ true → ⊥) → Turned H L (flip_cw L (g / 2)) g
  turned g ig it calm = elim (either_half g) [
    | inl q ↦ subst (λ x. Turned H L (flip L x) g) (sym q) (by_half g ig it calm)
    | inr q ↦ subst (λ x. Turned H L (flip L x) g) (sym q) (other_half (flip L (rev g)) (rev g) g refl (by_half (rev g) it (subst (Inside H) (sym (rev_rev g)) ig) calm))
  ]
