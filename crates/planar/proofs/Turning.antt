-- Places one after another, each next one counterclockwise of the one before, seen from o.
use mathlib.Core.Path.{◌≡◌, refl, sym, ◌∙◌, ap, ap₂, subst}
use mathlib.Core.List.{[], ◌∷◌}
use mathlib.Core.Logic.{◌⊎◌, inl, inr}
use Prim.Native.Nat.{ℕ, zero, suc, ◌+◌, ◌-◌, ◌≤◌, ◌<◌}
use native.Mathlib.Omega.{arith}
use native.Mathlib.Nat.{le_of_suc-le-suc, not-suc-le-zero, eq-or-lt_of_le}
use lib.IntN.{ℤ, pos, ◌+ℤ◌, ◌-ℤ◌, ◌*ℤ◌, *ℤ_comm, zero-*ℤ}
use lib.Signed.{◌≤ℤ◌, ◌<ℤ◌}
use borrow.Author.Differences.{ints}
use Rattle.zring.proofs.Ring.{◌⊹◌, ◌⊖◌, ◌⊛◌, ring}
use Rattle.zring.proofs.Signs.{mul-≥≥, mul->>, mul-≥≤, cancel->, cancel-≥, cancel-≤, weaken, zero-≤, neg_both, neg-≥, zero_clash, neg-≤, sum->, zero-≥, both_zero}
use Rattle.plane.specs.Plane.{Pt, S}
use Rattle.plane.proofs.Sym.{X, Y, SE, coords}
use Rattle.planar.proofs.Order.{sign}
use Rattle.planar.proofs.Terms.{S-last, S-back}

-- from the right of the ray to its left: a number at most 0, and the next one above 0
abbrev pub Rise : (ℕ → ℤ) → ℕ → Type 0
Rise g i = (g i ≤ℤ pos 0) × (pos 0 <ℤ g (suc i))

pub rises : (g : ℕ → ℤ) (a n : ℕ) → g a ≤ℤ pos 0 → pos 0 <ℤ g (n + a) → (i : ℕ) × (a ≤ i) × (i < n + a) × Rise g i
rises g a zero ha hb = absurd (clash (g a) (g (0 + a)) (ap g zero_plus) ha hb)
  where
    zero_plus : a ≡ 0 + a
    zero_plus = omega arith

    clash : (p q : ℤ) → p ≡ q → p ≤ℤ pos 0 → pos 0 <ℤ q → ⊥
    clash p q e h l = omega (arith, ints)
rises g a (suc n) ha hb = go (sign (g (n + a))) (rises g a n ha)
  where
    shift : suc n + a ≡ suc (n + a)
    shift = omega arith

    go : (g (n + a) ≤ℤ pos 0) ⊎ (pos 0 <ℤ g (n + a)) → (pos 0 <ℤ g (n + a) → (i : ℕ) × (a ≤ i) × (i < n + a) × Rise g i) → (i : ℕ) × (a ≤ i) × (i < suc n + a) × Rise g i
    go (inl l) before = (n + a, omega arith, omega arith, (l, subst (λ z. pos 0 <ℤ g z) shift hb))
    go (inr l) before = let r = before l in (r.0, r.1, widen r.0 r.2, r.3)
      where
        widen : (i : ℕ) → i < n + a → i < suc n + a
        widen i h = omega arith

-- all at most 0, or one above 0
pub scan : (g : ℕ → ℤ) (n : ℕ) → ((i : ℕ) → i < n → g i ≤ℤ pos 0) ⊎ ((i : ℕ) × (i < n) × (pos 0 <ℤ g i))
scan g zero = inl (λ i h. absurd (not-suc-le-zero h))
scan g (suc n) = go (scan g n) (sign (g n))
  where
    go : ((i : ℕ) → i < n → g i ≤ℤ pos 0) ⊎ ((i : ℕ) × (i < n) × (pos 0 <ℤ g i)) → (g n ≤ℤ pos 0) ⊎ (pos 0 <ℤ g n) → ((i : ℕ) → i < suc n → g i ≤ℤ pos 0) ⊎ ((i : ℕ) × (i < suc n) × (pos 0 <ℤ g i))
    go (inr r) s = let h = r.1 in inr (r.0, omega arith, r.2)
    go (inl all) (inr p) = inr (n, omega arith, p)
    go (inl all) (inl z) = inl (λ i h. elim (eq-or-lt_of_le (le_of_suc-le-suc h)) [ inl e ↦ subst (λ j. g j ≤ℤ pos 0) (sym e) z | inr l ↦ all i l ])

-- all above 0, or one at most 0
pub scan_above : (g : ℕ → ℤ) (n : ℕ) → ((i : ℕ) → i < n → pos 0 <ℤ g i) ⊎ ((i : ℕ) × (i < n) × (g i ≤ℤ pos 0))
scan_above g zero = inl (λ i h. absurd (not-suc-le-zero h))
scan_above g (suc n) = go (scan_above g n) (sign (g n))
  where
    go : ((i : ℕ) → i < n → pos 0 <ℤ g i) ⊎ ((i : ℕ) × (i < n) × (g i ≤ℤ pos 0)) → (g n ≤ℤ pos 0) ⊎ (pos 0 <ℤ g n) → ((i : ℕ) → i < suc n → pos 0 <ℤ g i) ⊎ ((i : ℕ) × (i < suc n) × (g i ≤ℤ pos 0))
    go (inr r) s = let h = r.1 in inr (r.0, omega arith, r.2)
    go (inl all) (inl z) = inr (n, omega arith, z)
    go (inl all) (inr p) = inl (λ i h. elim (eq-or-lt_of_le (le_of_suc-le-suc h)) [ inl e ↦ subst (λ j. pos 0 <ℤ g j) (sym e) p | inr l ↦ all i l ])

-- ---- three directions and a ray
turn_left : (o t a b c : Pt) → S o a c *ℤ S o t b ≡ S o a b *ℤ S o t c +ℤ S o b c *ℤ S o t a
unfolding S
turn_left o t a b c = ring (SE 0 2 4 ⊛ SE 0 1 3) (SE 0 2 3 ⊛ SE 0 1 4 ⊹ SE 0 3 4 ⊛ SE 0 1 2) (coords (o ∷ t ∷ a ∷ b ∷ c ∷ [])) tt

turn_right : (o t a b c : Pt) → S o a c *ℤ S o b t ≡ S o a b *ℤ S o c t +ℤ S o b c *ℤ S o a t
unfolding S
turn_right o t a b c = ring (SE 0 2 4 ⊛ SE 0 3 1) (SE 0 2 3 ⊛ SE 0 4 1 ⊹ SE 0 3 4 ⊛ SE 0 2 1) (coords (o ∷ t ∷ a ∷ b ∷ c ∷ [])) tt

-- c v = p q + r s
pub three-> : (c w p q r s : ℤ) → c *ℤ w ≡ p *ℤ q +ℤ r *ℤ s → pos 0 <ℤ w → pos 0 ≤ℤ p → pos 0 ≤ℤ q → pos 0 <ℤ r → pos 0 <ℤ s → pos 0 <ℤ c
three-> c w p q r s e hw hp hq hr hs = cancel-> w c hw (sum-> (w *ℤ c) (p *ℤ q) (r *ℤ s) (*ℤ_comm w c ∙ e) (mul-≥≥ p q hp hq) (mul->> r s hr hs))

pub plu : (o a b c d : Pt) → S o a b *ℤ S o c d +ℤ S o a d *ℤ S o b c ≡ S o a c *ℤ S o b d
unfolding S
plu o a b c d = ring (SE 0 1 2 ⊛ SE 0 3 4 ⊹ SE 0 1 4 ⊛ SE 0 2 3) (SE 0 1 3 ⊛ SE 0 2 4) (coords (o ∷ a ∷ b ∷ c ∷ d ∷ [])) tt

-- places on one side of a line, in order: no two are in one direction
half_plane : (o : Pt) (p : ℕ → Pt) (g : ℕ → ℤ) (n : ℕ) → ((i j l : ℕ) → S o (p i) (p l) *ℤ g j ≡ S o (p i) (p j) *ℤ g l +ℤ S o (p j) (p l) *ℤ g i)
    → ((i : ℕ) → pos 0 <ℤ S o (p i) (p (suc i))) → ((i : ℕ) → i ≤ suc n → pos 0 <ℤ g i) → pos 0 <ℤ S o (p 0) (p (suc n))
half_plane o p g zero id turns up = turns 0
half_plane o p g (suc n) id turns up =
    three-> (S o (p 0) (p (suc (suc n)))) (g (suc n)) (S o (p 0) (p (suc n))) (g (suc (suc n))) (S o (p (suc n)) (p (suc (suc n)))) (g 0) (id 0 (suc n) (suc (suc n)))
    (up (suc n) (omega arith)) (weaken (pos 0) (S o (p 0) (p (suc n))) (half_plane o p g n id turns (λ i h. up i (omega arith)))) (weaken (pos 0) (g (suc (suc n))) (up (suc (suc n)) (omega arith)))
    (turns (suc n)) (up 0 (omega arith))

scaled_x : (o t a b : Pt) → S o a b *ℤ (t.x -ℤ o.x) ≡ S o t b *ℤ (a.x -ℤ o.x) -ℤ S o t a *ℤ (b.x -ℤ o.x)
unfolding S
scaled_x o t a b = ring (SE 0 2 3 ⊛ (X 1 ⊖ X 0)) (SE 0 1 3 ⊛ (X 2 ⊖ X 0) ⊖ SE 0 1 2 ⊛ (X 3 ⊖ X 0)) (coords (o ∷ t ∷ a ∷ b ∷ [])) tt

scaled_y : (o t a b : Pt) → S o a b *ℤ (t.y -ℤ o.y) ≡ S o t b *ℤ (a.y -ℤ o.y) -ℤ S o t a *ℤ (b.y -ℤ o.y)
unfolding S
scaled_y o t a b = ring (SE 0 2 3 ⊛ (Y 1 ⊖ Y 0)) (SE 0 1 3 ⊛ (Y 2 ⊖ Y 0) ⊖ SE 0 1 2 ⊛ (Y 3 ⊖ Y 0)) (coords (o ∷ t ∷ a ∷ b ∷ [])) tt

pub same_place : (a b : Pt) → a.x ≡ b.x → a.y ≡ b.y → a ≡ b
same_place a b p q = λ i. record { x = p i; y = q i }

-- a and b in different directions, both on the line o t
pub no_ray : (o t a b : Pt) → pos 0 <ℤ S o a b → S o t a ≡ pos 0 → S o t b ≡ pos 0 → t ≡ o
no_ray o t a b h p q =
    same_place t o (level t.x o.x (a.x -ℤ o.x) (b.x -ℤ o.x) (scaled_x o t a b)) (level t.y o.y (a.y -ℤ o.y) (b.y -ℤ o.y) (scaled_y o t a b))
  where
    level : (tx ox u w : ℤ) → S o a b *ℤ (tx -ℤ ox) ≡ S o t b *ℤ u -ℤ S o t a *ℤ w → tx ≡ ox
    level tx ox u w e =
        let z : S o a b *ℤ (tx -ℤ ox) ≡ pos 0 = e ∙ ap₂ ◌-ℤ◌ (ap (λ s. s *ℤ u) q ∙ zero-*ℤ u) (ap (λ s. s *ℤ w) p ∙ zero-*ℤ w) in
        both (cancel-≥ (S o a b) (tx -ℤ ox) h (zero-≥ (S o a b *ℤ (tx -ℤ ox)) z)) (cancel-≤ (S o a b) (tx -ℤ ox) h (zero-≤ (S o a b *ℤ (tx -ℤ ox)) z))
      where
        both : pos 0 ≤ℤ (tx -ℤ ox) → (tx -ℤ ox) ≤ℤ pos 0 → tx ≡ ox
        both h l = omega (arith, ints)

-- ---- all the way around: every ray lies in a sector
module _ (o : Pt) (p : ℕ → Pt) (n : ℕ) (turns : (i : ℕ) → pos 0 <ℤ S o (p i) (p (suc i))) (cycle : (i : ℕ) → p (suc n + i) ≡ p i) (t : Pt) (away : ¬ (t ≡ o)) where
  abbrev g : ℕ → ℤ
  g i = S o t (p i)

  full : p (suc n) ≡ p 0
  full = ap p (sym plus_zero) ∙ cycle 0
    where
      plus_zero : suc n + 0 ≡ suc n
      plus_zero = omega arith

  full_one : p (suc (suc n)) ≡ p 1
  full_one = ap p (sym plus_one) ∙ cycle 1
    where
      plus_one : suc n + 1 ≡ suc (suc n)
      plus_one = omega arith

  not_one_side : (h : ℕ → ℤ) → ((i j l : ℕ) → S o (p i) (p l) *ℤ h j ≡ S o (p i) (p j) *ℤ h l +ℤ S o (p j) (p l) *ℤ h i) → ((i : ℕ) → i ≤ suc n → pos 0 <ℤ h i) → ⊥
  not_one_side h id up =
      zero_clash (S o (p 0) (p (suc n))) (ap (λ q. S o (p 0) q) full ∙ S-last o (p 0)) (half_plane o p h n id turns up)

  all_left : ((i : ℕ) → i < suc n → pos 0 <ℤ g i) → ⊥
  all_left up = not_one_side g (λ i j l. turn_left o t (p i) (p j) (p l)) (λ i h. elim (eq-or-lt_of_le h) [
    | inl e ↦ subst (λ q. pos 0 <ℤ S o t q) (sym full ∙ ap p (sym e)) (up 0 (omega arith))
    | inr l ↦ up i l
  ])

  -- no place on the line of the ray, if none is left of it
  strict : (i : ℕ) → g i ≤ℤ pos 0 → g (suc i) ≤ℤ pos 0 → g (suc (suc i)) ≤ℤ pos 0 → pos 0 <ℤ S o (p (suc i)) t
  strict i ha hb hc = elim (sign (S o (p (suc i)) t)) [ inr h ↦ h | inl h ↦ absurd (away (on_ray h)) ]
    where
      zero_b : S o (p (suc i)) t ≤ℤ pos 0 → g (suc i) ≡ pos 0
      zero_b h = neg_both (g (suc i)) (S o (p (suc i)) t) (S-back o t (p (suc i))) hb h

      on_ray : S o (p (suc i)) t ≤ℤ pos 0 → t ≡ o
      on_ray h =
          let zb = zero_b h in
          no_ray o t (p i) (p (suc i)) (turns i)
          (both_zero (g i) (cancel-≥ (S o (p (suc i)) (p (suc (suc i)))) (g i) (turns (suc i))
          (rest (S o (p i) (p (suc (suc i))) *ℤ g (suc i)) (S o (p i) (p (suc i)) *ℤ g (suc (suc i))) (S o (p (suc i)) (p (suc (suc i))) *ℤ g i)
          (turn_left o t (p i) (p (suc i)) (p (suc (suc i))))
          (*ℤ_comm (S o (p i) (p (suc (suc i)))) (g (suc i)) ∙ ap (λ z. z *ℤ S o (p i) (p (suc (suc i)))) zb ∙ zero-*ℤ (S o (p i) (p (suc (suc i)))))
          (mul-≥≤ (S o (p i) (p (suc i))) (g (suc (suc i))) (weaken (pos 0) (S o (p i) (p (suc i))) (turns i)) hc))) ha)
          zb
        where
          rest : (a b c : ℤ) → a ≡ b +ℤ c → a ≡ pos 0 → b ≤ℤ pos 0 → pos 0 ≤ℤ c
          rest a b c e f h = omega (arith, ints)

  all_right : ((i : ℕ) → i < suc n → g i ≤ℤ pos 0) → ⊥
  all_right down = not_one_side (λ i. S o (p i) t) (λ i j l. turn_right o t (p i) (p j) (p l)) up
    where
      at_n : g (suc n) ≤ℤ pos 0
      at_n = subst (λ q. S o t q ≤ℤ pos 0) (sym full) (down 0 (omega arith))

      upto : (i : ℕ) → i ≤ suc n → g i ≤ℤ pos 0
      upto i h = elim (eq-or-lt_of_le h) [ inl e ↦ subst (λ j. g j ≤ℤ pos 0) (sym e) at_n | inr l ↦ down i l ]

      at_one : g 1 ≤ℤ pos 0
      at_one = upto 1 (omega arith)

      further : (i : ℕ) → i ≤ suc (suc n) → g i ≤ℤ pos 0
      further i h = elim (eq-or-lt_of_le h) [ inl e ↦ subst (λ q. S o t q ≤ℤ pos 0) (sym full_one ∙ ap p (sym e)) at_one | inr l ↦ upto i (le_of_suc-le-suc l) ]

      past : (i : ℕ) → i ≤ n → pos 0 <ℤ S o (p (suc i)) t
      past i h = strict i (further i (omega arith)) (further (suc i) (omega arith)) (further (suc (suc i)) (omega arith))

      up : (i : ℕ) → i ≤ suc n → pos 0 <ℤ S o (p i) t
      up zero h = subst (λ q. pos 0 <ℤ S o q t) full (past n (omega arith))
      up (suc i) h = past i (le_of_suc-le-suc h)

  pub surround : (i : ℕ) × (i ≤ n) × Rise g i
  surround = start (sign (g 0))
    where
      upward : (a j : ℕ) → a ≤ j → j ≤ suc n → g a ≤ℤ pos 0 → pos 0 <ℤ g j → (i : ℕ) × (i ≤ n) × Rise g i
      upward a j h l ha hb =
          let r = rises g a (j - a) ha (subst (λ z. pos 0 <ℤ g z) (back a j h) hb) in
          (r.0, small r.0 r.2, r.3)
        where
          back : (a j : ℕ) → a ≤ j → j ≡ (j - a) + a
          back a j h = omega arith

          small : (i : ℕ) → i < (j - a) + a → i ≤ n
          small i q = omega arith

      from_right : g 0 ≤ℤ pos 0 → ((i : ℕ) → i < suc n → g i ≤ℤ pos 0) ⊎ ((i : ℕ) × (i < suc n) × (pos 0 <ℤ g i)) → (i : ℕ) × (i ≤ n) × Rise g i
      from_right h (inl all) = absurd (all_right all)
      from_right h (inr r) = let q = r.1 in upward 0 r.0 (omega arith) (omega arith) h r.2

      from_left : pos 0 <ℤ g 0 → ((i : ℕ) → i < suc n → pos 0 <ℤ g i) ⊎ ((i : ℕ) × (i < suc n) × (g i ≤ℤ pos 0)) → (i : ℕ) × (i ≤ n) × Rise g i
      from_left h (inl all) = absurd (all_left all)
      from_left h (inr r) = let q = r.1 in upward r.0 (suc n) (omega arith) (omega arith) r.2 (subst (λ q. pos 0 <ℤ S o t q) (sym full) h)

      start : (g 0 ≤ℤ pos 0) ⊎ (pos 0 <ℤ g 0) → (i : ℕ) × (i ≤ n) × Rise g i
      start (inl h) = from_right h (scan g (suc n))
      start (inr h) = from_left h (scan_above g (suc n))

-- ---- a path of which no place is right of the first
module _ (o : Pt) (p : ℕ → Pt) (n : ℕ) (turns : (i : ℕ) → i < n → pos 0 <ℤ S o (p i) (p (suc i))) (left : (i : ℕ) → i ≤ n → pos 0 ≤ℤ S o (p 0) (p i)) where
  -- the first and any other but the last
  pub from_first : (j : ℕ) → 0 < j → j < n → pos 0 <ℤ S o (p 0) (p j)
  from_first zero h l = absurd (not-suc-le-zero h)
  from_first (suc zero) h l = turns 0 (omega arith)
  from_first (suc (suc j)) h l =
      let before = from_first (suc j) (omega arith) (omega arith) in
      elim (sign (S o (p 0) (p (suc (suc j))))) [
        | inr q ↦ q
        | inl q ↦ absurd (clash (S o (p 0) (p (suc j)) *ℤ S o (p (suc (suc j))) (p (suc (suc (suc j))))) (S o (p 0) (p (suc (suc (suc j)))) *ℤ S o (p (suc j)) (p (suc (suc j))))
            (S o (p 0) (p (suc (suc j))) *ℤ S o (p (suc j)) (p (suc (suc (suc j)))))
            (plu o (p 0) (p (suc j)) (p (suc (suc j))) (p (suc (suc (suc j)))))
            (mul->> (S o (p 0) (p (suc j))) (S o (p (suc (suc j))) (p (suc (suc (suc j))))) before (turns (suc (suc j)) l))
            (mul-≥≥ (S o (p 0) (p (suc (suc (suc j))))) (S o (p (suc j)) (p (suc (suc j)))) (left (suc (suc (suc j))) l) (weaken (pos 0) (S o (p (suc j)) (p (suc (suc j)))) (turns (suc j) (omega arith))))
            (ap (λ z. z *ℤ S o (p (suc j)) (p (suc (suc (suc j))))) (both_zero (S o (p 0) (p (suc (suc j)))) (left (suc (suc j)) (omega arith)) q) ∙ zero-*ℤ (S o (p (suc j)) (p (suc (suc (suc j)))))))
      ]
    where
      clash : (a b c : ℤ) → a +ℤ b ≡ c → pos 0 <ℤ a → pos 0 ≤ℤ b → c ≡ pos 0 → ⊥
      clash a b c e h l z = omega (arith, ints)

  -- any two but the first and the last
  pub from_later : (i j : ℕ) → 0 < i → i < j → j ≤ n → pos 0 <ℤ S o (p i) (p j)
  from_later i zero hi h l = absurd (not-suc-le-zero h)
  from_later i (suc j) hi h l =
      let before : i < j → pos 0 <ℤ S o (p i) (p j) = λ q. from_later i j hi q (omega arith) in
      elim (eq-or-lt_of_le (le_of_suc-le-suc h)) [
        | inl e ↦ subst (λ z. pos 0 <ℤ S o (p z) (p (suc j))) (sym e) (turns j l)
        | inr q ↦ three-> (S o (p i) (p (suc j))) (S o (p 0) (p j)) (S o (p i) (p j)) (S o (p 0) (p (suc j))) (S o (p j) (p (suc j))) (S o (p 0) (p i))
            (turn_left o (p 0) (p i) (p j) (p (suc j))) (from_first j (omega arith) l) (weaken (pos 0) (S o (p i) (p j)) (before q)) (left (suc j) l) (turns j l) (from_first i hi (omega arith))
      ]

  -- every place between the first and the last lies in a closed sector
  pub between : (q : Pt) → 0 < n → pos 0 ≤ℤ S o (p 0) q → pos 0 ≤ℤ S o q (p n) → (i : ℕ) × (i < n) × (pos 0 ≤ℤ S o (p i) q) × (pos 0 ≤ℤ S o q (p (suc i)))
  between q hn h l = go (scan (λ i. S o q (p i)) (suc n))
    where
      last : (d : ℕ) → d ≡ n → 0 < d → ((i : ℕ) → i < suc n → S o q (p i) ≤ℤ pos 0) → (i : ℕ) × (i < n) × (pos 0 ≤ℤ S o (p i) q) × (pos 0 ≤ℤ S o q (p (suc i)))
      last zero e z all = absurd (not-suc-le-zero z)
      last (suc d) e z all = (d, omega arith, neg-≥ (S o (p d) q) (S o q (p d)) (S-back o (p d) q) (all d (omega arith)), subst (λ j. pos 0 ≤ℤ S o q (p j)) (sym e) l)

      go : ((i : ℕ) → i < suc n → S o q (p i) ≤ℤ pos 0) ⊎ ((i : ℕ) × (i < suc n) × (pos 0 <ℤ S o q (p i))) → (i : ℕ) × (i < n) × (pos 0 ≤ℤ S o (p i) q) × (pos 0 ≤ℤ S o q (p (suc i)))
      go (inl all) = last n refl hn all
      go (inr r) =
          let u = rises (λ i. S o q (p i)) 0 r.0 (neg-≤ (S o q (p 0)) (S o (p 0) q) (S-back o q (p 0)) h) (subst (λ z. pos 0 <ℤ S o q (p z)) (plus_zero r.0) r.2) in
          (u.0, small u.0 r.0 u.2 r.1, neg-≥ (S o (p u.0) q) (S o q (p u.0)) (S-back o (p u.0) q) u.3.0, weaken (pos 0) (S o q (p (suc u.0))) u.3.1)
        where
          plus_zero : (j : ℕ) → j ≡ j + 0
          plus_zero j = omega arith

          small : (i j : ℕ) → i < j + 0 → j < suc n → i < n
          small i j h l = omega arith
