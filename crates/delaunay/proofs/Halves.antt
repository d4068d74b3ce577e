-- The polygon theorem for halves.
use Rattle.std.proofs.Common.{◌≡◌, ℕ, ◌<◌, pos, ◌≤ℤ◌, refl, ap, ◌∙◌, subst, inl, inr}
use Rattle.plane.specs.Vec.{Vec, D}
use Rattle.delaunay.specs.Ring.{Cyc, Next, Seen, Pieces}
use Rattle.delaunay.specs.Halves.{Halves}
use Rattle.delaunay.proofs.Gaps.{polygon}

module _ (A : Type 0) (Live : A → Type 0) (nx tw : A → A) (lab : A → ℕ) (w : ℕ → Vec) (k : ℕ) (u : Vec) (s : Seen w k u) (g : Halves A Live nx tw lab w k) where
  abbrev F : ℕ → ℕ → ℕ → Type 0
  F a b c = (h : A) × Live h × (lab h ≡ a) × (lab (nx h) ≡ b) × (lab (nx (nx h)) ≡ c)

  abbrev T4 : ℕ → ℕ → ℕ → ℕ → Type 0
  T4 a b c d = D (w a) (w b) (w c) (w d) ≤ℤ pos 0

  pieces : Pieces w k F
  pieces =
      record {
        order = λ a b c f.
            subst (λ n. Cyc k n b c) f.2 (subst (λ n. Cyc k (lab f.0) n c) f.3 (subst (λ n. Cyc k (lab f.0) (lab (nx f.0)) n) f.4 (g.order f.0 f.1)));
        turn = λ a b c f. (nx f.0, g.stays f.0 f.1, f.3, f.4, ap lab (g.three f.0 f.1) ∙ f.2);
        over = λ a b c f.
            let h = f.0 in
            elim (g.over h f.1) [
              | inl e ↦ inl (subst (λ n. Next k n b) f.2 (subst (λ n. Next k (lab h) n) f.3 e))
              | inr o ↦ inr (
                lab (nx (nx (tw h))),
                (tw h, o.0, o.1 ∙ f.3, o.2 ∙ f.2, refl),
                subst (λ n. T4 n b c (lab (nx (nx (tw h))))) f.2
                    (subst (λ n. T4 (lab h) n c (lab (nx (nx (tw h))))) f.3 (subst (λ n. T4 (lab h) (lab (nx h)) n (lab (nx (nx (tw h))))) f.4 o.3)),
              )
            ];
      }

  pub by_halves : (h : A) (j : ℕ) → Live h → j < k → D (w (lab h)) (w (lab (nx h))) (w (lab (nx (nx h)))) (w j) ≤ℤ pos 0
  by_halves h j l i = polygon w k u F s pieces (lab h) (lab (nx h)) (lab (nx (nx h))) j (h, l, refl, refl, refl) i
