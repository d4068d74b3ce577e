-- The hull scan as flips: the erased entry has the last number of the ring, m + 1. What stands around it is the new outside.
use Rattle.std.proofs.Common.{◌≡◌, ℕ, suc, ◌<◌, ◌≤◌, ◌⊎◌, pos, ◌≤ℤ◌, sym, refl, ap, ◌∙◌, subst, inl, inr, arith}
use Rattle.plane.specs.Plane.{Pt, S}
use Rattle.delaunay.specs.Ring.{Cyc, Next}
use Rattle.delaunay.specs.Star.{Roof, Chain}
use Rattle.delaunay.specs.Statements.{Capped}
use Rattle.delaunay.specs.Mesh.{Mesh, Lawful, At, Below, Across, Top}
use Rattle.delaunay.proofs.Cycle.{lt_or_ge, cyc3}
use Rattle.delaunay.proofs.Holes.{low4, high3}
use Rattle.delaunay.proofs.Hull as hull

module _ (A : Type 0) (Live : A → Type 0) (nx tw : A → A) (lab : A → ℕ) (m : ℕ) (g : Mesh A Live nx tw lab (suc (suc m)) (Next (suc (suc m)))) where
  abbrev In : A → Type 0
  In = Below A Live nx lab m

  abbrev Ac : A → Type 0
  Ac = Across A Live nx lab m

  abbrev T : ℕ → ℕ → Type 0
  T = Top A Live nx lab m

  narrow : (a b c : ℕ) → Cyc (suc (suc m)) a b c → a ≤ m → b ≤ m → c ≤ m → Cyc (suc m) a b c
  narrow a b c (inl h) x y z = inl (h.0, h.1, omega arith)
  narrow a b c (inr (inl h)) x y z = inr (inl (h.0, h.1, omega arith))
  narrow a b c (inr (inr h)) x y z = inr (inr (h.0, h.1, omega arith))

  last : (a b c : ℕ) → Cyc (suc (suc m)) a b c → m < c → c ≡ suc m
  last a b c y h = omega arith

  -- where the apex is third
  rises : (a b c : ℕ) → Cyc (suc (suc m)) a b c → c ≡ suc m → (a < b) × (b ≤ m)
  rises a b c y e = (omega arith, omega arith)

  not_last : (a b c : ℕ) → Cyc (suc (suc m)) b a c → a < b → c ≤ m
  not_last a b c y h = omega arith

  low : (a b : ℕ) → a ≤ m → Next (suc (suc m)) a b → suc a ≡ b
  low a b h (inl e) = e
  low a b h (inr e) = let x = e.0 in absurd (omega arith)

  turn : (h : A) → In h → In (nx h)
  turn h i = record { live = g.stays h i.live; first = i.second; second = i.third; third = subst (λ n. n ≤ m) (ap lab (sym (g.three h i.live))) i.first }

  -- over a half with two low ends: a half of an inner face, or across from the apex
  beyond : (h : A) → Live h → lab h ≤ m → lab (nx h) ≤ m → In h ⊎ Ac h
  beyond h l x y =
      elim (lt_or_ge m (lab (nx (nx h)))) [
        | inl z ↦ inr (record { live = l; apex = last (lab h) (lab (nx h)) (lab (nx (nx h))) (g.order h l) z })
        | inr z ↦ inl (record { live = l; first = x; second = y; third = z })
      ]

  abbrev Edge : ℕ → ℕ → Type 0
  Edge a b = (suc a ≡ b) ⊎ T b a

  -- the faces without the apex are faces on the chain
  pub inner_mesh : Mesh A In nx tw lab (suc m) Edge
  inner_mesh =
      record {
        stays = turn;
        three = λ h i. g.three h i.live;
        back = g.back;
        order = λ h i. narrow (lab h) (lab (nx h)) (lab (nx (nx h))) (g.order h i.live) i.first i.second i.third;
        over = λ h i. elim (g.over h i.live) [
          | inl e ↦ inl (inl (low (lab h) (lab (nx h)) i.first e))
          | inr x ↦ elim (beyond (tw h) x.0 (subst (λ n. n ≤ m) (sym x.1) i.second) (subst (λ n. n ≤ m) (sym x.2) i.first)) [
            | inl y ↦ inr (y, x.1, x.2)
            | inr y ↦ inl (inr (tw h, y, x.1, x.2))
          ]
        ];
      }

  pub top_out : (a b : ℕ) → T a b → (a < b) × (b ≤ m)
  top_out a b f =
      let h = f.0 in
      let r = rises (lab h) (lab (nx h)) (lab (nx (nx h))) (g.order h f.1.live) f.1.apex in
      (subst (λ n. n < b) f.2 (subst (λ n. lab h < n) f.3 r.0), subst (λ n. n ≤ m) f.3 r.1)

  pub top_under : (a b : ℕ) → T a b → (suc a ≡ b) ⊎ ((d : ℕ) × At A In nx lab b a d)
  top_under a b f =
      let h = f.0 in
      let l = f.1.live in
      let r = rises (lab h) (lab (nx h)) (lab (nx (nx h))) (g.order h l) f.1.apex in
      let r0 = r.0 in
      let r1 = r.1 in
      elim (g.over h l) [
        | inl e ↦ inl (ap suc (sym f.2) ∙ low (lab h) (lab (nx h)) (omega arith) e ∙ f.3)
        | inr x ↦
            let u = tw h in
            inr (
              lab (nx (nx u)),
              (
                u,
                record {
                  live = x.0;
                  first = subst (λ n. n ≤ m) (sym x.1) r1;
                  second = subst (λ n. n ≤ m) (sym x.2) (omega arith);
                  third = not_last (lab h) (lab (nx h)) (lab (nx (nx u))) (cyc3 (suc (suc m)) x.1 x.2 refl (g.order u x.0)) r0;
                },
                x.1 ∙ f.3,
                x.2 ∙ f.2,
                refl,
              ),
            )
      ]

  pub top_next : (a b : ℕ) → T a b → (b ≡ m) ⊎ ((c : ℕ) × T b c)
  top_next a b f =
      let h = f.0 in
      let l = f.1.live in
      let n = nx h in
      let ln = g.stays h l in
      let r = rises (lab h) (lab (nx h)) (lab (nx (nx h))) (g.order h l) f.1.apex in
      elim (g.over n ln) [
        | inl e ↦ inl (sym f.3 ∙ pred (lab n) (low (lab n) (lab (nx n)) r.1 e ∙ f.1.apex))
        | inr x ↦
            let u = tw n in
            let t = g.three u x.0 in
            inr (lab (nx (nx u)), (nx u, record { live = g.stays u x.0; apex = ap lab t ∙ x.1 ∙ f.1.apex }, x.2 ∙ f.3, refl))
      ]
    where
      pred : (i : ℕ) → suc i ≡ suc m → i ≡ m
      pred i e = omega arith

  pub top_prev : (a b : ℕ) → T a b → (a ≡ 0) ⊎ ((c : ℕ) × T c a)
  top_prev a b f =
      let h = f.0 in
      let l = f.1.live in
      let n = nx (nx h) in
      let ln = g.stays (nx h) (g.stays h l) in
      let r = rises (lab h) (lab (nx h)) (lab (nx (nx h))) (g.order h l) f.1.apex in
      let back : lab (nx n) ≡ a = ap lab (g.three h l) ∙ f.2 in
      elim (g.over n ln) [
        | inl e ↦ inl (zero_out (lab n) (lab (nx n)) f.1.apex (subst (λ i. i ≤ m) (sym back) (omega (arith, top_out a b f))) e back)
        | inr x ↦
            let u = tw n in
            let t = g.three u x.0 in
            inr (lab (nx (nx u)), (nx (nx u), record { live = g.stays (nx u) (g.stays u x.0); apex = ap (λ y. lab (nx y)) t ∙ x.2 ∙ f.1.apex }, refl, ap lab t ∙ x.1 ∙ back))
      ]
    where
      zero_out : (i j : ℕ) → i ≡ suc m → j ≤ m → Next (suc (suc m)) i j → j ≡ a → a ≡ 0
      zero_out i j p q (inl e) y = absurd (omega arith)
      zero_out i j p q (inr e) y = sym y ∙ e.1

  -- with the places: a roof, once the chain turns right and the edges are legal
  module _ (p : ℕ → Pt) (left : (h : A) → In h → pos 0 ≤ℤ S (p (lab h)) (p (lab (nx h))) (p (lab (nx (nx h)))))
      (ok : (h : A) → In h → In (tw h) → Lawful A nx tw lab p h)
      (right : (a b c : ℕ) → T a b → T b c → S (p a) (p b) (p c) ≤ℤ pos 0) where
    pub roof_of : Roof p m (At A In nx lab) T
    roof_of =
        record {
          order = λ a b c f. cyc3 (suc m) f.2 f.3 f.4 (inner_mesh.order f.0 f.1);
          left = λ a b c f. high3 p f.2 f.3 f.4 (left f.0 f.1);
          turn = λ a b c f. (nx f.0, turn f.0 f.1, f.3, f.4, ap lab (g.three f.0 f.1.live) ∙ f.2);
          over = λ a b c f.
              let h = f.0 in
              elim (inner_mesh.over h f.1) [
                | inl (inl e) ↦ inl (ap suc (sym f.2) ∙ e ∙ f.3)
                | inl (inr x) ↦ inr (inl (x.0, x.1, x.2 ∙ f.3, x.3 ∙ f.2))
                | inr x ↦ inr (inr (lab (nx (nx (tw h))), (tw h, x.0, x.1 ∙ f.3, x.2 ∙ f.2, refl), low4 p (lab (nx (nx (tw h)))) f.2 f.3 f.4 (ok h f.1 x.0)))
              ];
          out = top_out;
          under = top_under;
          next = λ a b f. elim (top_next a b f) [ inl e ↦ inl e | inr x ↦ inr (x.0, x.1, right a b x.0 f x.1) ];
          prev = λ a b f. elim (top_prev a b f) [ inl e ↦ inl e | inr x ↦ inr (x.0, x.1, right x.0 a b x.1 f) ];
        }

    pub capped : (o : Pt) → Chain o p m → Capped A Live nx lab o p m
    capped o c =
        record {
          ring = λ h j i. hull.ring_out o p m c (At A In nx lab) T roof_of (lab h) (lab (nx h)) (lab (nx (nx h))) j (h, i, refl, refl, refl);
          others = λ h q i e.
              hull.empties o p m c (At A In nx lab) T roof_of (lab h) (lab (nx h)) (lab (nx (nx h))) q (h, i, refl, refl, refl) e.elsewhere e.after e.before e.out;
          hull_ring = λ h j i. hull.ring_right o p m c (At A In nx lab) T roof_of (lab h) (lab (nx h)) j (h, i, refl, refl);
          hull_others = λ h q i e. hull.rights o p m c (At A In nx lab) T roof_of (lab h) (lab (nx h)) q (h, i, refl, refl) e.elsewhere e.after e.before e.out;
        }
