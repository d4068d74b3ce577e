-- The polygon theorem: where each side is legal, no vector of the ring is inside a face.
use Rattle.std.proofs.Common.{◌≡◌, ℕ, zero, suc, ◌<◌, ℤ, pos, ◌+ℤ◌, ◌*ℤ◌, ◌≤ℤ◌, ◌<ℤ◌, sym, ◌∙◌, subst, inl, inr, eq-or-lt_of_le, arith}
use lib.IntN.{*ℤ_comm}
use Rattle.zring.proofs.Signs.{mul-≤≥, mul-≥≤, cancel-≤, sum-≤, zero-≤}
use Rattle.plane.specs.Vec.{Vec, D}
use Rattle.plane.proofs.Forms.{across, D-rot, D-same}
use Rattle.delaunay.specs.Ring.{Cyc, Seen, Pieces}
use Rattle.delaunay.proofs.Cycle.{lt_or_ge, cyc_in, cyc_turn, between, Near, near_all, nearer_left, nearer_right, not_near, not_next}

pub three-≤ : (a v b w c u : ℤ) → a *ℤ v ≡ b *ℤ w +ℤ c *ℤ u → pos 0 <ℤ v → b ≤ℤ pos 0 → pos 0 ≤ℤ w → pos 0 ≤ℤ c → u ≤ℤ pos 0 → a ≤ℤ pos 0
three-≤ a v b w c u e hv hb hw hc hu =
    cancel-≤ v a hv (sum-≤ (v *ℤ a) (b *ℤ w) (c *ℤ u) (*ℤ_comm v a ∙ e) (mul-≤≥ b w hb hw) (mul-≥≤ c u hc hu))

-- the view from u, in the order of the ring
pub weakly : (w : ℕ → Vec) (k : ℕ) (u : Vec) → Seen w k u → (a b c : ℕ) → Cyc k a b c → pos 0 ≤ℤ D (w a) (w b) (w c) u
weakly w k u s a b c (inl h) = s.weak a b c h.0 h.1 h.2
weakly w k u s a b c (inr (inl h)) = subst (λ z. pos 0 ≤ℤ z) (sym (D-rot (w a) (w b) (w c) u)) (s.weak b c a h.0 h.1 h.2)
weakly w k u s a b c (inr (inr h)) = subst (λ z. pos 0 ≤ℤ z) (D-rot (w c) (w a) (w b) u) (s.weak c a b h.0 h.1 h.2)

-- strictly, where a face a b c stands before the face b a d, and j beyond it
beyond : (w : ℕ → Vec) (k : ℕ) (u : Vec) → Seen w k u → (a b c d j : ℕ) → Cyc k a b c → Cyc k a j b → (j ≡ d → ⊥) → Cyc k b a d → pos 0 <ℤ D (w b) (w a) (w d) u
beyond w k u s a b c d j p q n (inl h) = s.strict b a d h.0 h.1 h.2 (omega arith)
beyond w k u s a b c d j p q n (inr (inl h)) =
    subst (λ z. pos 0 <ℤ z) (sym (D-rot (w b) (w a) (w d) u)) (s.strict a d b h.0 h.1 h.2 (omega arith))
beyond w k u s a b c d j p q n (inr (inr h)) =
    subst (λ z. pos 0 <ℤ z) (D-rot (w d) (w b) (w a) u) (s.strict d b a h.0 h.1 h.2 (omega arith))

module _ (w : ℕ → Vec) (k : ℕ) (u : Vec) (F : ℕ → ℕ → ℕ → Type 0) (s : Seen w k u) (f : Pieces w k F) where
  -- from the face b a d, in which j is not inside, to the face a b c
  step : (a b c d j : ℕ) → Cyc k a b c → Cyc k b a d → Cyc k a j b → (j ≡ d → ⊥) → D (w a) (w b) (w c) (w d) ≤ℤ pos 0 → D (w b) (w a) (w d) (w j) ≤ℤ pos 0 → D (w a) (w b) (w c) (w j) ≤ℤ pos 0
  step a b c d j p q r n legal further =
      three-≤ (D (w a) (w b) (w c) (w j)) (D (w b) (w a) (w d) u) (D (w a) (w b) (w c) (w d)) (D (w b) (w a) (w j) u) (D (w a) (w b) (w c) u) (D (w b) (w a) (w d) (w j))
      (across (w a) (w b) (w c) (w d) (w j) u)
      (beyond w k u s a b c d j p r n q) legal
      (weakly w k u s b a j (cyc_turn k j b a (cyc_turn k a j b r)))
      (weakly w k u s a b c p) further

  gap : (n a b c j : ℕ) → F a b c → Cyc k a j b → Near k n a b → D (w a) (w b) (w c) (w j) ≤ℤ pos 0
  gap zero a b c j g r near = absurd (not_near k a b j r near)
  gap (suc n) a b c j g r near =
      let ih = gap n in
      elim (f.over a b c g) [
        | inl e ↦ absurd (not_next k a b j r e)
        | inr o ↦
            let d = o.0 in
            let q = f.order b a d o.1 in
            elim (between k a b d j r q) [
              | inl e ↦ subst (λ i. D (w a) (w b) (w c) (w i) ≤ℤ pos 0) (sym e) o.2
              | inr (inl t) ↦
                  step a b c d j (f.order a b c g) q r (apart_left k a d j t) o.2
                  (subst (λ z. z ≤ℤ pos 0) (sym (D-rot (w b) (w a) (w d) (w j))) (ih a d b j (f.turn b a d o.1) t (nearer_left k n a b d q near)))
              | inr (inr t) ↦
                  step a b c d j (f.order a b c g) q r (apart_right k b d j t) o.2
                  (subst (λ z. z ≤ℤ pos 0) (D-rot (w d) (w b) (w a) (w j)) (ih d b a j (f.turn a d b (f.turn b a d o.1)) t (nearer_right k n a b d q near)))
            ]
      ]
    where
      apart_left : (k a d j : ℕ) → Cyc k a j d → j ≡ d → ⊥
      apart_left k a d j p e = omega arith

      apart_right : (k b d j : ℕ) → Cyc k d j b → j ≡ d → ⊥
      apart_right k b d j p e = omega arith

  side : (a b c j : ℕ) → F a b c → b < k → Cyc k a j b → D (w a) (w b) (w c) (w j) ≤ℤ pos 0
  side a b c j g h r = gap k a b c j g r (near_all k a b h)

  -- a face whose numbers rise
  rising : (a b c j : ℕ) → F a b c → a < b → b < c → c < k → j < k → D (w a) (w b) (w c) (w j) ≤ℤ pos 0
  rising a b c j g h l m i =
      elim (lt_or_ge j a) [
        | inl o ↦ last (cyc_in k c j a (omega arith) (omega arith) (omega arith) (omega arith) (omega arith) (omega arith))
        | inr o ↦ elim (eq-or-lt_of_le o) [
          | inl e ↦ subst (λ n. D (w a) (w b) (w c) (w n) ≤ℤ pos 0) e (zero-≤ (D (w a) (w b) (w c) (w a)) (D-same (w a) (w b) (w c)))
          | inr o ↦ elim (lt_or_ge j b) [
            | inl t ↦ side a b c j g (omega arith) (inl (o, t, omega arith))
            | inr t ↦ elim (eq-or-lt_of_le t) [
              | inl e ↦ subst (λ n. D (w a) (w b) (w c) (w n) ≤ℤ pos 0) e (zero-≤ (D (w a) (w b) (w c) (w b)) (D-rot (w a) (w b) (w c) (w b) ∙ D-same (w b) (w c) (w a)))
              | inr t ↦ elim (lt_or_ge j c) [
                | inl x ↦ subst (λ z. z ≤ℤ pos 0) (sym (D-rot (w a) (w b) (w c) (w j))) (side b c a j (f.turn a b c g) (omega arith) (inl (t, x, omega arith)))
                | inr x ↦ elim (eq-or-lt_of_le x) [
                  | inl e ↦ subst (λ n. D (w a) (w b) (w c) (w n) ≤ℤ pos 0) e
                      (zero-≤ (D (w a) (w b) (w c) (w c)) (D-rot (w a) (w b) (w c) (w c) ∙ D-rot (w b) (w c) (w a) (w c) ∙ D-same (w c) (w a) (w b)))
                  | inr x ↦ last (cyc_in k c j a (omega arith) (omega arith) (omega arith) (omega arith) (omega arith) (omega arith))
                ]
              ]
            ]
          ]
        ]
      ]
    where
      last : Cyc k c j a → D (w a) (w b) (w c) (w j) ≤ℤ pos 0
      last r = subst (λ z. z ≤ℤ pos 0) (D-rot (w c) (w a) (w b) (w j)) (side c a b j (f.turn b c a (f.turn a b c g)) (omega arith) r)

  polygon' : (a b c j : ℕ) → F a b c → j < k → Cyc k a b c → D (w a) (w b) (w c) (w j) ≤ℤ pos 0
  polygon' a b c j g i (inl h) = rising a b c j g h.0 h.1 h.2 i
  polygon' a b c j g i (inr (inl h)) =
      subst (λ z. z ≤ℤ pos 0) (sym (D-rot (w a) (w b) (w c) (w j))) (rising b c a j (f.turn a b c g) h.0 h.1 h.2 i)
  polygon' a b c j g i (inr (inr h)) =
      subst (λ z. z ≤ℤ pos 0) (D-rot (w c) (w a) (w b) (w j)) (rising c a b j (f.turn b c a (f.turn a b c g)) h.0 h.1 h.2 i)

  pub polygon : (a b c j : ℕ) → F a b c → j < k → D (w a) (w b) (w c) (w j) ≤ℤ pos 0
  polygon a b c j g i = polygon' a b c j g i (f.order a b c g)
