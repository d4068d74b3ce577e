-- The two holes, by halves.
use Rattle.std.proofs.Common.{◌≡◌, ℕ, suc, ◌<◌, ◌≤◌, pos, ◌≤ℤ◌, sym, refl, ap, ◌∙◌, subst, inl, inr, arith}
use Rattle.plane.specs.Plane.{Pt, S, C}
use Rattle.plane.specs.Vec.{lift}
use Rattle.plane.proofs.Places.{circle_is}
use Rattle.delaunay.specs.Ring.{Next}
use Rattle.delaunay.specs.Star.{Star, Faces, Chain, Roof}
use Rattle.delaunay.specs.Mesh.{Mesh, Lawful, Legal, Eaves, At}
use Rattle.delaunay.specs.Statements.{Filled, Entry}
use Rattle.delaunay.proofs.Cycle.{cyc3}
use Rattle.delaunay.proofs.Star as star
use Rattle.delaunay.proofs.Hull as hull

pub lawful_is : (A : Type 0) (nx tw : A → A) (lab : A → ℕ) (p : ℕ → Pt) (h : A) → Legal A nx tw lab (λ i. lift (p i)) h → Lawful A nx tw lab p h
lawful_is A nx tw lab p h l =
    subst (λ z. z ≤ℤ pos 0) (circle_is (p (lab h)) (p (lab (nx h))) (p (lab (nx (nx h)))) (p (lab (nx (nx (tw h)))))) l

pub low4 : (p : ℕ → Pt) {a a' b b' c c' : ℕ} (d : ℕ) → a ≡ a' → b ≡ b' → c ≡ c' → C (p a) (p b) (p c) (p d) ≤ℤ pos 0 → C (p a') (p b') (p c') (p d) ≤ℤ pos 0
low4 p d x y z h = subst (λ t. t ≤ℤ pos 0) (λ i. C (p (x i)) (p (y i)) (p (z i)) (p d)) h

pub low3 : (p : ℕ → Pt) {a a' b b' c c' : ℕ} → a ≡ a' → b ≡ b' → c ≡ c' → S (p a) (p b) (p c) ≤ℤ pos 0 → S (p a') (p b') (p c') ≤ℤ pos 0
low3 p x y z h = subst (λ t. t ≤ℤ pos 0) (λ i. S (p (x i)) (p (y i)) (p (z i))) h

pub high3 : (p : ℕ → Pt) {a a' b b' c c' : ℕ} → a ≡ a' → b ≡ b' → c ≡ c' → pos 0 ≤ℤ S (p a) (p b) (p c) → pos 0 ≤ℤ S (p a') (p b') (p c')
high3 p x y z h = subst (λ t. pos 0 ≤ℤ t) (λ i. S (p (x i)) (p (y i)) (p (z i))) h

module _ (A : Type 0) (Live : A → Type 0) (nx tw : A → A) (lab : A → ℕ) (o : Pt) (p : ℕ → Pt) (k : ℕ) (s : Star o p k) (m : Mesh A Live nx tw lab k (Next k))
    (ok : (h : A) → Live h → Live (tw h) → Lawful A nx tw lab p h) where
  faces : Faces p k (At A Live nx lab)
  faces =
      record {
        order = λ a b c f. cyc3 k f.2 f.3 f.4 (m.order f.0 f.1);
        turn = λ a b c f. (nx f.0, m.stays f.0 f.1, f.3, f.4, ap lab (m.three f.0 f.1) ∙ f.2);
        over = λ a b c f.
            let h = f.0 in
            elim (m.over h f.1) [
              | inl e ↦ inl (subst (λ n. Next k n b) f.2 (subst (λ n. Next k (lab h) n) f.3 e))
              | inr x ↦ inr (lab (nx (nx (tw h))), (tw h, x.0, x.1 ∙ f.3, x.2 ∙ f.2, refl), low4 p (lab (nx (nx (tw h)))) f.2 f.3 f.4 (ok h f.1 x.0))
            ];
      }

  pub filled : (h : A) → Live h → Filled o p k (lab h) (lab (nx h)) (lab (nx (nx h)))
  filled h l =
      let f : At A Live nx lab (lab h) (lab (nx h)) (lab (nx (nx h))) = (h, l, refl, refl, refl) in
      record {
        left = star.lefts o p k s (At A Live nx lab) faces (lab h) (lab (nx h)) (lab (nx (nx h))) f;
        ring = λ j i. star.ring_out o p k s (At A Live nx lab) faces (lab h) (lab (nx h)) (lab (nx (nx h))) j f i;
        others = λ q. star.empties o p k s (At A Live nx lab) faces (lab h) (lab (nx h)) (lab (nx (nx h))) q f;
      }

module _ (A : Type 0) (Live Out : A → Type 0) (nx pv tw : A → A) (lab : A → ℕ) (o : Pt) (p : ℕ → Pt) (m : ℕ) (s : Chain o p m) (g : Eaves A Live Out nx pv tw lab p m) where
  abbrev G : ℕ → ℕ → ℕ → Type 0
  G = At A Live nx lab

  abbrev O : ℕ → ℕ → Type 0
  O a b = (h : A) × Out h × (lab h ≡ a) × (lab (nx h) ≡ b)

  below : (a b c : ℕ) → a < b → b ≤ c → a ≡ c → ⊥
  below a b c h l e = omega arith

  roof : Roof p m G O
  roof =
      record {
        order = λ a b c f. cyc3 (suc m) f.2 f.3 f.4 (g.order f.0 f.1);
        left = λ a b c f. high3 p f.2 f.3 f.4 (g.left f.0 f.1);
        turn = λ a b c f. (nx f.0, g.stays f.0 f.1, f.3, f.4, ap lab (g.three f.0 f.1) ∙ f.2);
        over = λ a b c f.
            let h = f.0 in
            elim (g.over h f.1) [
              | inl e ↦ inl (ap suc (sym f.2) ∙ e ∙ f.3)
              | inr x ↦ elim x.0 [
                | inl y ↦ inr (inl (tw h, y, x.1 ∙ f.3, x.2 ∙ f.2))
                | inr y ↦ inr (inr (lab (nx (nx (tw h))), (tw h, y.0, x.1 ∙ f.3, x.2 ∙ f.2, refl), low4 p (lab (nx (nx (tw h)))) f.2 f.3 f.4 y.1))
              ]
            ];
        out = λ a b f.
            let x = g.out f.0 f.1 in
            (subst (λ n. n < b) f.2 (subst (λ n. lab f.0 < n) f.3 x.0), subst (λ n. n ≤ m) f.3 x.1);
        under = λ a b f.
            let h = f.0 in
            elim (g.under h f.1) [
              | inl e ↦ inl (ap suc (sym f.2) ∙ e ∙ f.3)
              | inr x ↦ inr (lab (nx (nx (tw h))), (tw h, x.0, x.1 ∙ f.3, x.2 ∙ f.2, refl))
            ];
        next = λ a b f.
            let h = f.0 in
            elim (g.next h f.1) [
              | inl e ↦ inl (sym f.3 ∙ e)
              | inr x ↦ inr (lab (nx (nx h)), (nx h, x.0, f.3, refl), low3 p f.2 f.3 refl x.1)
            ];
        prev = λ a b f.
            let h = f.0 in
            elim (g.prev h f.1) [
              | inl e ↦ inl (sym f.2 ∙ e)
              | inr x ↦
                  let q = pv h in
                  let y = g.out h f.1 in
                  elim (g.next q x.0) [
                    | inl e ↦ absurd (below (lab h) (lab (nx h)) m y.0 y.1 (ap lab (sym x.1) ∙ e))
                    | inr z ↦ inr (lab q, (q, x.0, refl, ap lab x.1 ∙ f.2), low3 p refl (ap lab x.1 ∙ f.2) (ap (λ u. lab (nx u)) x.1 ∙ f.3) z.1)
                  ]
            ];
      }

  at : (h : A) → Live h → G (lab h) (lab (nx h)) (lab (nx (nx h)))
  at h l = (h, l, refl, refl, refl)

  out_at : (h : A) → Out h → O (lab h) (lab (nx h))
  out_at h l = (h, l, refl, refl)

  pub hull_ring_out : (h : A) (j : ℕ) → Live h → j ≤ m → C (p (lab h)) (p (lab (nx h))) (p (lab (nx (nx h)))) (p j) ≤ℤ pos 0
  hull_ring_out h j l i = hull.ring_out o p m s G O roof (lab h) (lab (nx h)) (lab (nx (nx h))) j (at h l) i

  pub hull_empties : (h : A) (q : Pt) → Live h → Entry o p m q → C (p (lab h)) (p (lab (nx h))) (p (lab (nx (nx h)))) q ≤ℤ pos 0
  hull_empties h q l e = hull.empties o p m s G O roof (lab h) (lab (nx h)) (lab (nx (nx h))) q (at h l) e.elsewhere e.after e.before e.out

  pub hull_ring_right : (h : A) (j : ℕ) → Out h → j ≤ m → S (p (lab h)) (p (lab (nx h))) (p j) ≤ℤ pos 0
  hull_ring_right h j l i = hull.ring_right o p m s G O roof (lab h) (lab (nx h)) j (out_at h l) i

  pub hull_rights : (h : A) (q : Pt) → Out h → Entry o p m q → S (p (lab h)) (p (lab (nx h))) q ≤ℤ pos 0
  hull_rights h q l e = hull.rights o p m s G O roof (lab h) (lab (nx h)) q (out_at h l) e.elsewhere e.after e.before e.out
