-- The scan of the hull: what is across from the apex turns right.
use Rattle.std.proofs.Common.{◌≡◌, ℕ, suc, ◌<◌, ◌≤◌, Bool, true, ◌≢◌, ◌⊎◌, pos, ◌≤ℤ◌, ◌<ℤ◌, sym, refl, ap, ◌∙◌, subst, inl, inr, arith}
use native.Mathlib.Decide.{ℕ_discrete}
use Rattle.zring.proofs.Signs.{weaken}
use Rattle.plane.specs.Plane.{Pt, S}
use Rattle.delaunay.specs.Ring.{Cyc, Next}
use Rattle.delaunay.specs.Mesh.{Mesh, Flipped, Across}
use Rattle.delaunay.specs.Start.{Scanned}
use Rattle.delaunay.specs.Scan.{Stacked, ScanNext, ScanBefore, ScanRest, ScanFlips, ScanEnd}
use Rattle.delaunay.proofs.Mesh.{scanned, stay_left_below}

pub scan_next : ScanNext
scan_next live nx lab p m j top d a l = record {
  across = a;
  leads = l;
  only = d.only;
  left = d.left;
  right = λ h g ah ag e b n. d.right h g ah ag e (lower (lab (nx g)) b (λ q. n (d.only g top ag a (q ∙ sym l))));
}
  where
    lower : (n : ℕ) → n ≤ suc j → n ≢ suc j → n ≤ j
    lower n h d = omega arith

-- what is across from the apex rises
rises : (m a b c : ℕ) → Cyc (suc (suc m)) a b c → c ≡ suc m → (a < b) × (b ≤ m)
rises m a b c y e = (omega arith, omega arith)

pub scan_before : ScanBefore
scan_before live nx tw lab m g top a n =
    elim (g.over s ls) [
      | inl x ↦ absurd (no_next (lab s) (lab (nx s)) a.apex (ap lab around ∙ refl) x)
      | inr x ↦ (
        x.0,
        x.1 ∙ ap lab around,
        x.2 ∙ a.apex,
        record { live = g.stays (nx (tw s)) (g.stays (tw s) x.0); apex = ap (λ u. lab (nx u)) (g.three (tw s) x.0) ∙ x.2 ∙ a.apex },
      )
    ]
  where
    s : ℕ
    s = nx (nx top)

    ls : live s ≡ true
    ls = g.stays (nx top) (g.stays top a.live)

    around : nx s ≡ top
    around = g.three top a.live

    no_next : (x y : ℕ) → x ≡ suc m → y ≡ lab top → Next (suc (suc m)) x y → ⊥
    no_next x y e f (inl q) =
        let r = rises m (lab top) (lab (nx top)) (lab s) (g.order top a.live) a.apex in too_high (lab top) (lab (nx top)) (sym f ∙ sym q ∙ ap suc e) r.0 r.1
      where
        too_high : (u w : ℕ) → u ≡ suc (suc m) → u < w → w ≤ m → ⊥
        too_high u w e h l = omega arith
    no_next x y e f (inr q) = n (sym f ∙ q.1)

pub scan_rest : ScanRest
scan_rest live nx lab p m j top s ok = record { only = s.only; left = s.left; right = right }
  where
    right : (h g : ℕ) → Across ℕ (λ h. live h ≡ true) nx lab m h → Across ℕ (λ h. live h ≡ true) nx lab m g → lab (nx h) ≡ lab g → lab (nx g) ≤ j → S (p (lab h)) (p (lab g)) (p (lab (nx g))) ≤ℤ pos 0
    right h g ah ag e b = go (ℕ_discrete g top)
      where
        go : Dec (g ≡ top) → S (p (lab h)) (p (lab g)) (p (lab (nx g))) ≤ℤ pos 0
        go (no n) = s.right h g ah ag e b n
        go (yes q) =
            subst (λ u. S (p (lab h)) (p (lab u)) (p (lab (nx u))) ≤ℤ pos 0) (sym q)
            (subst (λ u. S (p (lab h)) (p (lab top)) (p u) ≤ℤ pos 0) (sym s.leads) (ok h ah (e ∙ ap lab q)))

module _ (live : ℕ → Bool) (nx tw lab : ℕ → ℕ) (p : ℕ → Pt) (m j : ℕ) (edge : ℕ → ℕ → Bool) (g : Mesh ℕ (λ h. live h ≡ true) nx tw lab (suc (suc m)) (λ a b. edge a b ≡ true))
    (nx' lab' : ℕ → ℕ) (e : ℕ) (le : live e ≡ true) (lt : live (tw e) ≡ true) (from : lab (tw e) ≡ lab (nx e)) (to : lab (nx (tw e)) ≡ lab e)
    (fl : Flipped ℕ e (tw e) (nx e) (nx (nx e)) (nx (tw e)) (nx (nx (tw e))) nx nx' lab lab') (apex : lab (nx e) ≡ suc m)
    (st : Stacked ℕ (λ h. live h ≡ true) nx lab p m j (nx (tw e))) (turn : pos 0 <ℤ S (p (lab (nx (nx e)))) (p (lab e)) (p j)) where
  abbrev Live : ℕ → Type 0
  Live h = live h ≡ true

  abbrev Old : ℕ → Type 0
  Old x = Across ℕ Live nx lab m x

  abbrev New : ℕ → Type 0
  New x = Across ℕ Live nx' lab' m x

  sc : Scanned ℕ Live nx nx' tw lab lab' m e
  sc = scanned ℕ ℕ_discrete Live nx tw lab (suc (suc m)) (λ a b. edge a b ≡ true) g nx' lab' e le lt from to fl m apex

  -- the end of e is that of the old top
  end : lab' (nx' e) ≡ lab (nx (nx (tw e)))
  end = sc.goes

  ends : (x : ℕ) → Old x → x ≢ nx (nx e) → x ≢ nx (tw e) → (lab' x ≡ lab x) × (lab' (nx' x) ≡ lab (nx x))
  ends x a p q = let r = sc.others x a p q in (r.1, r.2)

  only : (h f : ℕ) → New h → New f → lab' (nx' h) ≡ lab' (nx' f) → h ≡ f
  only h f ah af q = go (sc.every h ah) (sc.every f af)
    where
      go : (h ≡ e) ⊎ (Old h × (h ≢ nx (nx e)) × (h ≢ nx (tw e))) → (f ≡ e) ⊎ (Old f × (f ≢ nx (nx e)) × (f ≢ nx (tw e))) → h ≡ f
      go (inl x) (inl y) = x ∙ sym y
      go (inl x) (inr y) = absurd (y.2 (st.only f (nx (tw e)) y.0 st.across (sym (ends f y.0 y.1 y.2).1 ∙ sym q ∙ ap (λ u. lab' (nx' u)) x ∙ end)))
      go (inr x) (inl y) = absurd (x.2 (st.only h (nx (tw e)) x.0 st.across (sym (ends h x.0 x.1 x.2).1 ∙ q ∙ ap (λ u. lab' (nx' u)) y ∙ end)))
      go (inr x) (inr y) = st.only h f x.0 y.0 (sym (ends h x.0 x.1 x.2).1 ∙ q ∙ (ends f y.0 y.1 y.2).1)

  right : (h f : ℕ) → New h → New f → lab' (nx' h) ≡ lab' f → lab' (nx' f) ≤ j → f ≢ e → S (p (lab' h)) (p (lab' f)) (p (lab' (nx' f))) ≤ℤ pos 0
  right h f ah af q b n = go (sc.every h ah) (sc.every f af)
    where
      above : (u w : ℕ) → u ≡ j → u < w → w ≤ j → ⊥
      above u w e h l = omega arith

      go : (h ≡ e) ⊎ (Old h × (h ≢ nx (nx e)) × (h ≢ nx (tw e))) → (f ≡ e) ⊎ (Old f × (f ≢ nx (nx e)) × (f ≢ nx (tw e))) → S (p (lab' h)) (p (lab' f)) (p (lab' (nx' f))) ≤ℤ pos 0
      go x (inl y) = absurd (n y)
      go (inl x) (inr y) =
          let r = ends f y.0 y.1 y.2 in
          absurd (above (lab f) (lab (nx f)) (sym r.0 ∙ sym q ∙ ap (λ u. lab' (nx' u)) x ∙ end ∙ st.leads)
          (rises m (lab f) (lab (nx f)) (lab (nx (nx f))) (g.order f y.0.live) y.0.apex).0 (subst (λ u. u ≤ j) r.1 b))
      go (inr x) (inr y) =
          let r = ends f y.0 y.1 y.2 in
          let u = ends h x.0 x.1 x.2 in
          subst (λ z. z ≤ℤ pos 0) (λ i. S (p (sym u.0 i)) (p (sym r.0 i)) (p (sym r.1 i)))
          (st.right h f x.0 y.0 (sym u.1 ∙ q ∙ r.0) (subst (λ k. k ≤ j) r.1 b) y.2)

  stacked : Stacked ℕ Live nx' lab' p m j e
  stacked = record {
    across = sc.across;
    leads = sc.goes ∙ st.leads;
    only = only;
    left = stay_left_below ℕ ℕ_discrete Live nx tw lab (suc (suc m)) (λ a b. edge a b ≡ true) g nx' lab' e le lt from to fl m apex p st.left
        (weaken (pos 0) (S (p (lab (nx (nx e)))) (p (lab e)) (p (lab (nx (nx (tw e)))))) (subst (λ u. pos 0 <ℤ S (p (lab (nx (nx e)))) (p (lab e)) (p u)) (sym st.leads) turn));
    right = right;
  }

pub scan_flip : ScanFlips
scan_flip = stacked

pub scan_end : ScanEnd
scan_end live nx tw lab p m g d a b c (h, ah, ea, eb) (f, af, fb, fc) =
    subst (λ z. z ≤ℤ pos 0) (λ i. S (p (ea i)) (p (fb i)) (p (fc i)))
    (d.right h f ah af (eb ∙ sym fb) (rises m (lab f) (lab (nx f)) (lab (nx (nx f))) (g.order f af.live) af.apex).1)
