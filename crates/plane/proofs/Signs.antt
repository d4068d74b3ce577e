-- Signs of sides and circles.
use Rattle.std.proofs.Common.{◌≡◌, [], ◌∷◌, ℤ, pos, ◌+ℤ◌, ◌-ℤ◌, ◌*ℤ◌, neg_ℤ, ◌≤ℤ◌, ◌<ℤ◌, sym, refl, ap, ◌∙◌, subst, ap₂, inl, inr, arith}
use lib.IntN.{*ℤ_comm, zero-*ℤ, *ℤ-zero}
use borrow.Author.Differences.{ints}
use Rattle.zring.proofs.Ring.{v, ◌⊹◌, ◌⊖◌, ◌⊛◌, ⊝◌, ring}
use Rattle.zring.proofs.Signs.{pos_or, sign-≥, clash, weaken, neg-≤, sum-≥≥, sum->≥, mul-≥≥, mul->>, mul-≤≥, mul-≤≤, mul-<>, cancel-≥, cancel-≤, cancel->, factor->, sq-≥}
use Rattle.plane.specs.Plane.{Pt, S, C, sq, far, dot}
use Rattle.plane.specs.Signs.{Pencil, Flip, Chord, Sector, Tie, Mean, Border}
use Rattle.plane.proofs.Sides.{S-cyc, S-swap, flip_areas}
use Rattle.plane.proofs.Circles.{C-turn, C-end, flip_circle, pencil}
use Rattle.plane.proofs.Terms.{lagrange, flip_id, chord, height, tie, jensen3}

-- ---- x is on c's side of the chord and not inside; o is across it and not inside: o is not inside the circle through a, b, x
pub outer : Pencil
outer a b c x o hc hx hin ho hout =
    cancel-≤ (S a b c) (C a b x o) hc
    (subst (λ z. z ≤ℤ pos 0) (*ℤ_comm (C a b x o) (S a b c))
    (rest (C a b c o *ℤ S a b x) (C a b x o *ℤ S a b c) (C a b c x *ℤ S a b o) (pencil a b c x o)
    (mul-≤≥ (C a b c o) (S a b x) hout (weaken (pos 0) (S a b x) hx))
    (mul-≤≤ (C a b c x) (S a b o) hin (weaken (S a b o) (pos 0) ho))))
  where
    rest : (m n t : ℤ) → m -ℤ n ≡ t → m ≤ℤ pos 0 → pos 0 ≤ℤ t → n ≤ℤ pos 0
    rest m n t e h l = omega (arith, ints)

-- ---- distances
pub far-≥ : (a b : Pt) → pos 0 ≤ℤ far a b
unfolding far
far-≥ a b = sum-≥≥ ((a.x -ℤ b.x) *ℤ (a.x -ℤ b.x)) ((a.y -ℤ b.y) *ℤ (a.y -ℤ b.y)) (sq-≥ (a.x -ℤ b.x)) (sq-≥ (a.y -ℤ b.y))

-- a side that is not 0 has two ends
pub far_ends : (o a b : Pt) → pos 0 <ℤ S o a b → (pos 0 <ℤ far o a) × (pos 0 <ℤ far o b)
far_ends o a b h =
    let p : pos 0 <ℤ (far o a *ℤ far o b) =
    subst (λ z. pos 0 <ℤ z) (sym (lagrange o a b)) (sum->≥ (S o a b *ℤ S o a b) (dot o a b *ℤ dot o a b) (mul->> (S o a b) (S o a b) h h) (sq-≥ (dot o a b))) in
    (factor-> (far o a) (far o b) (far-≥ o a) p, factor-> (far o b) (far o a) (far-≥ o b) (subst (λ z. pos 0 <ℤ z) (*ℤ_comm (far o a) (far o b)) p))

-- ---- a flip keeps faces turning left
flip_half : (a b c d : Pt) → pos 0 <ℤ S a b c → pos 0 <ℤ S b a d → pos 0 <ℤ C a b c d → pos 0 <ℤ S c d b
flip_half a b c d hc hd h =
    elim (pos_or (S c d b)) [
      | inl p ↦ p
      | inr p ↦ absurd
          (clash (S d c a *ℤ C a b c d) (mul->> (S d c a) (C a b c d) (rest (S c d b) (S d c a) (S a b c) (S b a d) (flip_areas a b c d) hc hd p) h)
          (subst (λ z. z ≤ℤ pos 0) (sym (flip_id a b c d))
          (under (S c d b *ℤ (S b a d *ℤ far c a +ℤ S a b c *ℤ far d a)) (S b a d *ℤ S a b c *ℤ far c d)
          (mul-≤≥ (S c d b) (S b a d *ℤ far c a +ℤ S a b c *ℤ far d a) p
          (sum-≥≥ (S b a d *ℤ far c a) (S a b c *ℤ far d a) (mul-≥≥ (S b a d) (far c a) (weaken (pos 0) (S b a d) hd) (far-≥ c a)) (mul-≥≥ (S a b c) (far d a) (weaken (pos 0) (S a b c) hc) (far-≥ d a))))
          (mul-≥≥ (S b a d *ℤ S a b c) (far c d) (weaken (pos 0) (S b a d *ℤ S a b c) (mul->> (S b a d) (S a b c) hd hc)) (far-≥ c d)))))
    ]
  where
    rest : (α β γ δ : ℤ) → α +ℤ β ≡ γ +ℤ δ → pos 0 <ℤ γ → pos 0 <ℤ δ → α ≤ℤ pos 0 → pos 0 <ℤ β
    rest α β γ δ e p q r = omega (arith, ints)

    under : (m n : ℤ) → m ≤ℤ pos 0 → pos 0 ≤ℤ n → (m -ℤ n) ≤ℤ pos 0
    under m n p q = omega (arith, ints)

pub flip_ccw : Flip
flip_ccw a b c d hc hd h =
    (flip_half a b c d hc hd h, flip_half b a d c hd hc (subst (λ z. pos 0 <ℤ z) (flip_circle a b c d) h))

-- ---- a place strictly between a and b is inside every circle through them
pub on_chord : Chord
on_chord a b c q h e l =
    done (C a b c q) (S a b q *ℤ dot c a b) (dot q a b *ℤ S a b c) (chord a b c q) (ap (λ z. z *ℤ dot c a b) e ∙ zero-*ℤ (dot c a b)) (mul-<> (dot q a b) (S a b c) l h)
  where
    done : (z m n : ℤ) → z ≡ m -ℤ n → m ≡ pos 0 → n <ℤ pos 0 → pos 0 <ℤ z
    done z m n e p q = omega (arith, ints)

-- ---- around o: q in the sector from a to b, and not inside the circle of o, a, b: it is beyond the side a b
pub sector_side : Sector
sector_side o a b q hab haq hqb hq h =
    let T = S o q b *ℤ far o a +ℤ S o a q *ℤ far o b in
    let M = S o a b *ℤ C a b q o in
    let U = S o q b *ℤ S o a q *ℤ far a b in
    let h_t : pos 0 ≤ℤ T = sum-≥≥ (S o q b *ℤ far o a) (S o a q *ℤ far o b) (mul-≥≥ (S o q b) (far o a) hqb (far-≥ o a)) (mul-≥≥ (S o a q) (far o b) haq (far-≥ o b)) in
    let h_u : pos 0 ≤ℤ U = mul-≥≥ (S o q b *ℤ S o a q) (far a b) (mul-≥≥ (S o q b) (S o a q) hqb haq) (far-≥ a b) in
    let h_m : pos 0 ≤ℤ M = mul-≥≥ (S o a b) (C a b q o) (weaken (pos 0) (S o a b) hab) h in
    let e : T *ℤ S a q b ≡ U +ℤ M =
    tie o a q b ∙ minus U (S o a b *ℤ C a q b o) M (neg_out (S o a b) (C a q b o) (C a b q o) (C-turn a q b o)) in
    elim (sign-≥ T h_t) [
      | inl z ↦ absurd
          (clash (S o a b *ℤ C a b q o)
          (mul->> (S o a b) (C a b q o) hab
          (above (C a b q o) T (S o a b *ℤ far o q) (height' (C a b q o) (C a q b o) T (S o a b *ℤ far o q) (C-turn a b q o) (height o a q b)) z (mul->> (S o a b) (far o q) hab hq)))
          (none (T *ℤ S a q b) U M e (ap (λ t. t *ℤ S a q b) z ∙ zero-*ℤ (S a q b)) h_u))
      | inr p ↦ neg-≤ (S a b q) (S a q b) (side a b q) (cancel-≥ T (S a q b) p (subst (λ t. pos 0 ≤ℤ t) (sym e) (sum-≥≥ U M h_u h_m)))
    ]
  where
    side : (a b q : Pt) → S a b q ≡ neg_ℤ (S a q b)
    side a b q = S-cyc a b q ∙ S-cyc b q a ∙ S-swap q a b

    neg_out : (m x y : ℤ) → x ≡ neg_ℤ y → m *ℤ x ≡ neg_ℤ (m *ℤ y)
    neg_out m x y e = ap (λ z. m *ℤ z) e ∙ flipped m y
      where
        flipped : (m y : ℤ) → m *ℤ neg_ℤ y ≡ neg_ℤ (m *ℤ y)
        flipped m y = ring (v 0 ⊛ (⊝ v 1)) (⊝ (v 0 ⊛ v 1)) (m ∷ y ∷ []) tt

    minus : (u x m : ℤ) → x ≡ neg_ℤ m → u -ℤ x ≡ u +ℤ m
    minus u x m e = omega (arith, ints)

    height' : (z y t m : ℤ) → z ≡ neg_ℤ y → y ≡ t -ℤ m → z ≡ m -ℤ t
    height' z y t m e f = omega (arith, ints)

    above : (z t m : ℤ) → z ≡ m -ℤ t → t ≡ pos 0 → pos 0 <ℤ m → pos 0 <ℤ z
    above z t m e f h = omega (arith, ints)

    none : (z u m : ℤ) → z ≡ u +ℤ m → z ≡ pos 0 → pos 0 ≤ℤ u → m ≤ℤ pos 0
    none z u m e f h = omega (arith, ints)

-- ---- a tie: o on the circle of a, b, c, or inside it
pub tied : Tie
tied o a b c hab hbc e =
    let ea = far_ends o a b hab in
    let eb = far_ends o b c hbc in
    let T = S o b c *ℤ far o a +ℤ S o a b *ℤ far o c in
    let h_t : pos 0 <ℤ T =
    sum->≥ (S o b c *ℤ far o a) (S o a b *ℤ far o c) (mul->> (S o b c) (far o a) hbc ea.0) (weaken (pos 0) (S o a b *ℤ far o c) (mul->> (S o a b) (far o c) hab eb.1)) in
    let hac : pos 0 <ℤ S o a c =
    cancel-> (far o b) (S o a c) ea.1
    (subst (λ z. pos 0 <ℤ z) (*ℤ_comm (S o a c) (far o b)) (same (C a b c o) T (S o a c *ℤ far o b) (height o a b c) e h_t)) in
    let far_ac : pos 0 <ℤ far a c = (far_ends a c o (subst (λ z. pos 0 <ℤ z) (S-cyc o a c) hac)).0 in (
      hac,
      cancel-> T (S a b c) h_t
          (subst (λ z. pos 0 <ℤ z) (sym (tie o a b c))
          (less (S o b c *ℤ S o a b *ℤ far a c) (S o a c *ℤ C a b c o) (ap (λ z. S o a c *ℤ z) e ∙ *ℤ-zero (S o a c))
          (mul->> (S o b c *ℤ S o a b) (far a c) (mul->> (S o b c) (S o a b) hbc hab) far_ac))),
    )
  where
    same : (z t m : ℤ) → z ≡ t -ℤ m → z ≡ pos 0 → pos 0 <ℤ t → pos 0 <ℤ m
    same z t m e f h = omega (arith, ints)

    less : (m n : ℤ) → n ≡ pos 0 → pos 0 <ℤ m → pos 0 <ℤ (m -ℤ n)
    less m n e h = omega (arith, ints)

-- L (R - L (x² + y²)) is w, where L R = z + w, z = X² + Y², L x = X, L y = Y
mean_go : (L R z w x y X Y : ℤ) → L *ℤ x ≡ X → L *ℤ y ≡ Y → z ≡ X *ℤ X +ℤ Y *ℤ Y → L *ℤ R ≡ z +ℤ w → pos 0 ≤ℤ w → pos 0 ≤ℤ (L *ℤ (R -ℤ L *ℤ (x *ℤ x +ℤ y *ℤ y)))
mean_go L R z w x y X Y ex ey ez e h =
    let f = ring (v 0 ⊛ (v 1 ⊖ v 0 ⊛ (v 2 ⊛ v 2 ⊹ v 3 ⊛ v 3))) (v 0 ⊛ v 1 ⊖ ((v 0 ⊛ v 2) ⊛ (v 0 ⊛ v 2) ⊹ (v 0 ⊛ v 3) ⊛ (v 0 ⊛ v 3))) (L ∷ R ∷ x ∷ y ∷ []) tt in
    let g : (L *ℤ x) *ℤ (L *ℤ x) +ℤ (L *ℤ y) *ℤ (L *ℤ y) ≡ z = ap₂ (λ s t. s *ℤ s +ℤ t *ℤ t) ex ey ∙ sym ez in
    out (L *ℤ (R -ℤ L *ℤ (x *ℤ x +ℤ y *ℤ y))) (L *ℤ R) ((L *ℤ x) *ℤ (L *ℤ x) +ℤ (L *ℤ y) *ℤ (L *ℤ y)) z w f g e h
  where
    out : (m n s z w : ℤ) → m ≡ n -ℤ s → s ≡ z → n ≡ z +ℤ w → pos 0 ≤ℤ w → pos 0 ≤ℤ m
    out m n s z w p q e h = omega (arith, ints)

-- ---- q is the mean of a, b, c with weights at least 0
pub mean3 : Mean
unfolding far
mean3 l m n a b c q o hl hm hn h ex ey =
    let L = l +ℤ m +ℤ n in
    let X = l *ℤ (a.x -ℤ o.x) +ℤ m *ℤ (b.x -ℤ o.x) +ℤ n *ℤ (c.x -ℤ o.x) in
    let Y = l *ℤ (a.y -ℤ o.y) +ℤ m *ℤ (b.y -ℤ o.y) +ℤ n *ℤ (c.y -ℤ o.y) in
    let R = l *ℤ far a o +ℤ m *ℤ far b o +ℤ n *ℤ far c o in
    let U = l *ℤ m *ℤ far a b in
    let V = l *ℤ n *ℤ far a c in
    let W = m *ℤ n *ℤ far b c in
    cancel-≥ L (R -ℤ L *ℤ far q o) h
    (mean_go L R (sq X Y) (U +ℤ V +ℤ W) (q.x -ℤ o.x) (q.y -ℤ o.y) X Y ex ey refl (jensen3 l m n a b c o)
    (sum-≥≥ (U +ℤ V) W
    (sum-≥≥ U V (mul-≥≥ (l *ℤ m) (far a b) (mul-≥≥ l m hl hm) (far-≥ a b)) (mul-≥≥ (l *ℤ n) (far a c) (mul-≥≥ l n hl hn) (far-≥ a c)))
    (mul-≥≥ (m *ℤ n) (far b c) (mul-≥≥ m n hm hn) (far-≥ b c))))

-- ---- a border edge a b of the hole of o, with the new corner x and the old corner q beyond it, is legal
pub border_legal : Border
border_legal o a b x q hab hx hq cx cq =
    outer a b o x q (subst (λ z. pos 0 <ℤ z) (S-cyc o a b) hab) hx (neg-≤ (C a b o x) (C a b x o) (C-end a b o x) cx) hq (neg-≤ (C a b o q) (C a b q o) (C-end a b o q) cq)
