-- A flip of the links is a flip of the mesh, by any labels of the entries.
use Rattle.std.proofs.Common.{◌≡◌, ℕ, ◌+◌, ◌*◌, ◌/◌, ◌≢◌, ◌⊎◌, sym, refl, ap, ◌∙◌, subst, inl, inr, arith}
use Rattle.std.proofs.lemmas.Bool.{cases_eq}
use Rattle.links.specs.Links.{Links, rev}
use Rattle.links.proofs.Halves.{rev_rev, rev_even}
use Rattle.delaunay.specs.Mesh.{Flipped}
use Rattle.surgery.specs.Update.{flip}
use Rattle.surgery.proofs.Updates.{rev_live}
use Rattle.surgery.proofs.Roots.{Unrooted}
use Rattle.surgery.proofs.Flip as Flip
use Rattle.erasure.specs.Legalize.{flip_cw}

-- what a flip leaves in the links, it leaves in the mesh
pub mesh_flip : (f : ℕ → ℕ) (L L' : Links) (e t en ep tn tp : ℕ) → Flip.Flipped L L' e t en ep tn tp
    → Flipped ℕ e t en ep tn tp L.next L'.next (λ h. f (L.origin h)) (λ h. f (L'.origin h))
mesh_flip f L L' e t en ep tn tp F = record {
  next_e = F.next_e;
  next_tp = F.next_tp;
  next_en = F.next_en;
  next_t = F.next_t;
  next_ep = F.next_ep;
  next_tn = F.next_tn;
  lab_e = ap f F.origin_e;
  lab_t = ap f F.origin_t;
  others = λ h a b c d g k. F.next_else h (record { na = a; nb = b; nc = c; nd = d; ne = g; nf = k });
  labels = λ h a b. ap f (F.origin_else h a b);
}

-- a flip by a half is a flip by its twin
pub by_twin : (A : Type 0) (e t en ep tn tp : A) (nx nx' : A → A) (lab lab' : A → ℕ)
    → Flipped A e t en ep tn tp nx nx' lab lab' → Flipped A t e tn tp en ep nx nx' lab lab'
by_twin A e t en ep tn tp nx nx' lab lab' F = record {
  next_e = F.next_t;
  next_tp = F.next_ep;
  next_en = F.next_tn;
  next_t = F.next_e;
  next_ep = F.next_tp;
  next_tn = F.next_en;
  lab_e = F.lab_t;
  lab_t = F.lab_e;
  others = λ h a b c d g k. F.others h b a g k c d;
  labels = λ h a b. F.labels h b a;
}

-- between two triangles, by steps forward alone
pub flip_forward : (L : Links) (V E F : ℕ → Type 0) (e : ℕ) → Unrooted L V E F → E (e / 2)
    → L.next (L.next e) ≡ L.prev e → L.next (L.next (rev e)) ≡ L.prev (rev e)
    → L.face e ≢ L.face (rev e) → L.origin (L.prev e) ≢ L.origin (L.prev (rev e))
    → Flip.Flipped L (flip L e) e (rev e) (L.next e) (L.next (L.next e)) (L.next (rev e)) (L.next (L.next (rev e)))
flip_forward L V E F e W l three three' faces corners =
    subst (λ p. Flip.Flipped L (flip L e) e (rev e) (L.next e) p (L.next (rev e)) (L.next (L.next (rev e)))) (sym three)
    (subst (λ p. Flip.Flipped L (flip L e) e (rev e) (L.next e) (L.prev e) (L.next (rev e)) p) (sym three')
    (Flip.flipped L E e (Flip.quad L V E F e W l three three' faces corners) (W.ends e l)))

-- a half is one of the two of its edge
pub which_half : (h k : ℕ) → h / 2 ≡ k → (h ≡ 2 * k) ⊎ (h ≡ rev (2 * k))
which_half h k q = elim (cases_eq h (2 * k)) [ inl e ↦ inl e | inr n ↦ inr (odd n ∙ sym (rev_even k)) ]
  where
    odd : h ≢ 2 * k → h ≡ 2 * k + 1
    odd n = omega arith

-- the flip of an edge, by its normalized half, is a flip by each of its halves
pub flip_cw_mesh : (f : ℕ → ℕ) (L : Links) (V E F : ℕ → Type 0) (h : ℕ) → Unrooted L V E F → E (h / 2)
    → L.next (L.next h) ≡ L.prev h → L.next (L.next (rev h)) ≡ L.prev (rev h)
    → L.face h ≢ L.face (rev h) → L.origin (L.prev h) ≢ L.origin (L.prev (rev h))
    → Flipped ℕ h (rev h) (L.next h) (L.next (L.next h)) (L.next (rev h)) (L.next (L.next (rev h)))
    L.next (flip_cw L (h / 2)).next (λ x. f (L.origin x)) (λ x. f ((flip_cw L (h / 2)).origin x))
flip_cw_mesh f L V E F h W l three three' faces corners = elim (which_half h (h / 2) refl) [
  | inl q ↦ subst (Goal h) q (by_first h l three three' faces corners)
  | inr q ↦
      subst (Goal h) (ap rev q ∙ rev_rev (2 * (h / 2)))
      (subst (λ x. Goal x (rev h)) (rev_rev h) (by_twin ℕ _ _ _ _ _ _ _ _ _ _
      (by_first (rev h) (rev_live E h l) three' (subst Three (sym (rev_rev h)) three)
      (λ x. faces (sym (x ∙ ap L.face (rev_rev h)))) (λ x. corners (sym (x ∙ ap (λ y. L.origin (L.prev y)) (rev_rev h)))))))
]
  where
    Three : ℕ → Type 0
    Three x = L.next (L.next x) ≡ L.prev x

    Goal : ℕ → ℕ → Type 0
    Goal x e =
        Flipped ℕ x (rev h) (L.next x) (L.next (L.next x)) (L.next (rev h)) (L.next (L.next (rev h)))
        L.next (flip L e).next (λ y. f (L.origin y)) (λ y. f ((flip L e).origin y))

    by_first : (e : ℕ) → E (e / 2) → Three e → Three (rev e) → L.face e ≢ L.face (rev e) → L.origin (L.prev e) ≢ L.origin (L.prev (rev e))
        → Flipped ℕ e (rev e) (L.next e) (L.next (L.next e)) (L.next (rev e)) (L.next (L.next (rev e)))
        L.next (flip L e).next (λ y. f (L.origin y)) (λ y. f ((flip L e).origin y))
    by_first e l a b c d = mesh_flip f L (flip L e) _ _ _ _ _ _ (flip_forward L V E F e W l a b c d)
