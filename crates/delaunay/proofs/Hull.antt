-- An entry on the hull: inf stands in the ring, behind the last place of the chain.
use Rattle.std.proofs.Common.{◌≡◌, ℕ, zero, suc, ◌+◌, ◌<◌, ◌≤◌, ◌⊎◌, ℤ, pos, ◌-ℤ◌, ◌*ℤ◌, ◌≤ℤ◌, ◌<ℤ◌, sym, refl, ap, ◌∙◌, subst, ap₂, inl, inr, arith}
use native.Mathlib.Decide.{dec_lt}
use borrow.Author.Differences.{ints}
use Rattle.zring.proofs.Signs.{mul-≥≥, mul->>, weaken, neg-≥, neg-≤, zero-≥}
use Rattle.plane.specs.Plane.{Pt, S, C, far}
use Rattle.plane.specs.Vec.{Vec, D, lift, inf}
use Rattle.plane.specs.Signs.{top}
use Rattle.plane.proofs.Sides.{S-cyc, S-swap}
use Rattle.plane.proofs.Forms.{D-less, D-rot}
use Rattle.plane.proofs.Places.{circle_is, side_is, cross_is, flat_is}
use Rattle.plane.proofs.Circles.{C-rot}
use Rattle.plane.proofs.Signs.{sector_side}
use Rattle.plane.proofs.Convex.{convex_at, strict_at}
use Rattle.plane.proofs.Bounds.{side_small as small}
use Rattle.planar.proofs.Terms.{S-back, S-last}
use Rattle.planar.proofs.Turning.{between}
use Rattle.delaunay.specs.Ring.{Cyc, Next, Seen, Pieces}
use Rattle.delaunay.specs.Star.{Chain, Roof}
use Rattle.delaunay.proofs.Cycle.{lt_or_ge}
use Rattle.delaunay.proofs.Gaps.{polygon}
use Rattle.delaunay.proofs.New.{empty_at}
use Rattle.delaunay.proofs.Star.{eye, seen_is}

-- the chain, and inf behind it
pub rim : (ℕ → Pt) → ℕ → ℕ → Vec
rim p m i = elim (dec_lt i (suc m)) [ yes h ↦ lift (p i) | no h ↦ inf ]

dec_in : (p : ℕ → Pt) (m i : ℕ) (d : Dec (i < suc m)) → i ≤ m → elim d as (λ _. Vec) [ yes h ↦ lift (p i) | no h ↦ inf ] ≡ lift (p i)
dec_in p m i (yes h) l = refl
dec_in p m i (no h) l = absurd (h (omega arith))

dec_out : (p : ℕ → Pt) (m i : ℕ) (d : Dec (i < suc m)) → suc m ≤ i → elim d as (λ _. Vec) [ yes h ↦ lift (p i) | no h ↦ inf ] ≡ inf
dec_out p m i (yes h) l = absurd (omega arith)
dec_out p m i (no h) l = refl

pub rim_in : (p : ℕ → Pt) (m i : ℕ) → i ≤ m → rim p m i ≡ lift (p i)
unfolding rim
rim_in p m i l = dec_in p m i (dec_lt i (suc m)) l

pub rim_out : (p : ℕ → Pt) (m : ℕ) → rim p m (suc m) ≡ inf
unfolding rim
rim_out p m = dec_out p m (suc m) (dec_lt (suc m) (suc m)) (omega arith)

same4 : {a a' b b' c c' d d' : Vec} → a ≡ a' → b ≡ b' → c ≡ c' → d ≡ d' → D a b c d ≡ D a' b' c' d'
same4 p q r s = λ i. D (p i) (q i) (r i) (s i)

-- D of two places and inf, seen from the eye
side_seen : (o a b : Pt) → D (lift a) (lift b) inf (eye o) ≡ top *ℤ S o a b
side_seen o a b =
    D-less (lift a) (lift b) inf (lift o) inf top ∙ ap₂ (λ s t. top *ℤ s -ℤ t) (cross_is a b o) (flat_is (lift a) (lift b)) ∙ out (top *ℤ S o a b)
  where
    out : (m : ℤ) → m -ℤ pos 0 ≡ m
    out m = omega (arith, ints)

cross_out : (a b q : Pt) → D (lift a) (lift b) inf (lift q) ≡ S a b q
cross_out a b q = cross_is a b q ∙ S-cyc q a b

module _ (o : Pt) (p : ℕ → Pt) (m : ℕ) (s : Chain o p m) where
  abbrev w : ℕ → Vec
  w = rim p m

  fan-≥ : (i j : ℕ) → i < j → j ≤ m → pos 0 ≤ℤ S o (p i) (p j)
  fan-≥ i j h l =
      elim (lt_or_ge j (i + m)) [
        | inl x ↦ weaken (pos 0) (S o (p i) (p j)) (s.fan i j h l x)
        | inr x ↦ let ei : i ≡ 0 = omega arith in let ej : j ≡ m = omega arith in
            subst (λ n. pos 0 ≤ℤ S o (p n) (p j)) (sym ei) (subst (λ n. pos 0 ≤ℤ S o (p 0) (p n)) (sym ej) s.wide)
      ]

  pub arch : (i j l : ℕ) → i < j → j < l → l ≤ m → pos 0 ≤ℤ C (p i) (p j) (p l) o
  arch i j l hij hjl hl =
      convex_at o (p i) (p j) (p l) (p (suc j)) (s.fan i j hij (omega arith) (omega arith)) (s.fan j l hjl hl (omega arith)) (s.ahead j (omega arith))
      (s.empty j i (omega arith) (omega arith)) (s.empty j l (omega arith) hl)

  pub arch_cyc : (a b c : ℕ) → Cyc (suc m) a b c → pos 0 ≤ℤ C (p a) (p b) (p c) o
  arch_cyc a b c (inl h) = arch a b c h.0 h.1 (omega arith)
  arch_cyc a b c (inr (inl h)) = subst (λ z. pos 0 ≤ℤ z) (sym (C-rot (p a) (p b) (p c) o)) (arch b c a h.0 h.1 (omega arith))
  arch_cyc a b c (inr (inr h)) = subst (λ z. pos 0 ≤ℤ z) (C-rot (p c) (p a) (p b) o) (arch c a b h.0 h.1 (omega arith))

  arch_strict : (i j l : ℕ) → i < j → j < l → l ≤ m → pos 0 <ℤ D (w i) (w j) (w l) (eye o)
  arch_strict i j l hij hjl hl =
      subst (λ z. pos 0 <ℤ z) (sym (same4 (rim_in p m i (omega arith)) (rim_in p m j (omega arith)) (rim_in p m l hl) refl ∙ seen_is o (p i) (p j) (p l)))
      (strict_at o (p i) (p j) (p l) (small (p i) (p j) (p l) (s.small i (omega arith)) (s.small j (omega arith)) (s.small l hl))
      (s.fan i j hij (omega arith) (omega arith)) (s.fan j l hjl hl (omega arith)) (arch i j l hij hjl hl))

  last_is : (i j l : ℕ) → i ≤ m → j ≤ m → l ≡ suc m → (u : Vec) → D (w i) (w j) (w l) u ≡ D (lift (p i)) (lift (p j)) inf u
  last_is i j l hi hj e u = same4 (rim_in p m i hi) (rim_in p m j hj) (ap w e ∙ rim_out p m) refl

  pub seen : Seen w (suc (suc m)) (eye o)
  seen =
      record {
        weak = λ i j l hij hjl hl. elim (lt_or_ge m l) [
          | inr x ↦ weaken (pos 0) (D (w i) (w j) (w l) (eye o)) (arch_strict i j l hij hjl x)
          | inl x ↦ subst (λ z. pos 0 ≤ℤ z) (sym (last_is i j l (omega arith) (omega arith) (omega arith) (eye o) ∙ side_seen o (p i) (p j)))
              (mul-≥≥ top (S o (p i) (p j)) (omega (arith, ints)) (fan-≥ i j hij (omega arith)))
        ];
        strict = λ i j l hij hjl hl hx. elim (lt_or_ge m l) [
          | inr x ↦ arch_strict i j l hij hjl x
          | inl x ↦ subst (λ z. pos 0 <ℤ z) (sym (last_is i j l (omega arith) (omega arith) (omega arith) (eye o) ∙ side_seen o (p i) (p j)))
              (mul->> top (S o (p i) (p j)) (omega (arith, ints)) (s.fan i j hij (omega arith) (omega arith)))
        ];
      }

  -- o is not outside
  held : (i j l : ℕ) → i < j → j < l → l < suc (suc m) → pos 0 ≤ℤ D (w i) (w j) (w l) (lift o)
  held i j l hij hjl hl =
      elim (lt_or_ge m l) [
        | inr x ↦ subst (λ z. pos 0 ≤ℤ z) (sym (same4 (rim_in p m i (omega arith)) (rim_in p m j (omega arith)) (rim_in p m l x) refl ∙ circle_is (p i) (p j) (p l) o)) (arch i j l hij hjl x)
        | inl x ↦ subst (λ z. pos 0 ≤ℤ z) (sym (last_is i j l (omega arith) (omega arith) (omega arith) (lift o) ∙ cross_is (p i) (p j) o)) (fan-≥ i j hij (omega arith))
      ]

  held_cyc : (a b c : ℕ) → Cyc (suc (suc m)) a b c → pos 0 ≤ℤ D (w a) (w b) (w c) (lift o)
  held_cyc a b c (inl h) = held a b c h.0 h.1 h.2
  held_cyc a b c (inr (inl h)) = subst (λ z. pos 0 ≤ℤ z) (sym (D-rot (w a) (w b) (w c) (lift o))) (held b c a h.0 h.1 h.2)
  held_cyc a b c (inr (inr h)) = subst (λ z. pos 0 ≤ℤ z) (D-rot (w c) (w a) (w b) (lift o)) (held c a b h.0 h.1 h.2)

  -- every entry that is between the ends of the chain is in a sector
  pub surround : (q : Pt) → pos 0 ≤ℤ S o (p 0) q → pos 0 ≤ℤ S o q (p m) → (i : ℕ) × (i < m) × (pos 0 ≤ℤ S o (p i) q) × (S o (p (suc i)) q ≤ℤ pos 0)
  surround q h l =
      let x = between o p m s.ahead (λ i b. first i b) q s.some h l in
      (x.0, x.1, x.2, neg-≤ (S o (p (suc x.0)) q) (S o q (p (suc x.0))) (S-back o (p (suc x.0)) q) x.3)
    where
      first : (i : ℕ) → i ≤ m → pos 0 ≤ℤ S o (p 0) (p i)
      first zero b = zero-≥ (S o (p 0) (p 0)) (S-last o (p 0))
      first (suc i) b = fan-≥ 0 (suc i) (omega arith) b

  module _ (G : ℕ → ℕ → ℕ → Type 0) (O : ℕ → ℕ → Type 0) (g : Roof p m G O) where
    abbrev F : ℕ → ℕ → ℕ → Type 0
    F a b c = G a b c ⊎ ((O a b × (c ≡ suc m)) ⊎ ((O c a × (b ≡ suc m)) ⊎ (O b c × (a ≡ suc m))))

    wider : (a b c : ℕ) → Cyc (suc m) a b c → Cyc (suc (suc m)) a b c
    wider a b c (inl h) = inl (h.0, h.1, omega arith)
    wider a b c (inr (inl h)) = inr (inl (h.0, h.1, omega arith))
    wider a b c (inr (inr h)) = inr (inr (h.0, h.1, omega arith))

    order : (a b c : ℕ) → F a b c → Cyc (suc (suc m)) a b c
    order a b c (inl f) = wider a b c (g.order a b c f)
    order a b c (inr (inl f)) = let h = g.out a b f.0 in let e = f.1 in inl (h.0, omega arith, omega arith)
    order a b c (inr (inr (inl f))) = let h = g.out c a f.0 in let e = f.1 in inr (inr (h.0, omega arith, omega arith))
    order a b c (inr (inr (inr f))) = let h = g.out b c f.0 in let e = f.1 in inr (inl (h.0, omega arith, omega arith))

    turn : (a b c : ℕ) → F a b c → F b c a
    turn a b c (inl f) = inl (g.turn a b c f)
    turn a b c (inr (inl f)) = inr (inr (inl f))
    turn a b c (inr (inr (inl f))) = inr (inr (inr f))
    turn a b c (inr (inr (inr f))) = inr (inl f)

    low : (a b c : ℕ) → G a b c → (a ≤ m) × (b ≤ m) × (c ≤ m)
    low a b c f = go (g.order a b c f)
      where
        go : Cyc (suc m) a b c → (a ≤ m) × (b ≤ m) × (c ≤ m)
        go y = (omega arith, omega arith, omega arith)

    -- the rim at a, b, inf and c
    rims : (a b c : ℕ) → a ≤ m → b ≤ m → c ≤ m → D (w a) (w b) (w (suc m)) (w c) ≡ S (p a) (p b) (p c)
    rims a b c ha hb hc = same4 (rim_in p m a ha) (rim_in p m b hb) (rim_out p m) (rim_in p m c hc) ∙ cross_out (p a) (p b) (p c)

    over : (a b c : ℕ) → F a b c → Next (suc (suc m)) a b ⊎ ((d : ℕ) × F b a d × (D (w a) (w b) (w c) (w d) ≤ℤ pos 0))
    over a b c (inl f) =
        let l = low a b c f in
        elim (g.over a b c f) [
          | inl e ↦ inl (inl e)
          | inr (inl h) ↦ inr (
            suc m,
            inr (inl (h, refl)),
            subst (λ z. z ≤ℤ pos 0) (sym (same4 (rim_in p m a l.0) (rim_in p m b l.1) (rim_in p m c l.2) (rim_out p m)))
                (neg-≤ (D (lift (p a)) (lift (p b)) (lift (p c)) inf) (S (p a) (p b) (p c)) (side_is (p a) (p b) (p c)) (g.left a b c f)),
          )
          | inr (inr h) ↦
              let d = h.0 in
              inr (d, inl h.1, subst (λ z. z ≤ℤ pos 0) (sym (same4 (rim_in p m a l.0) (rim_in p m b l.1) (rim_in p m c l.2) (rim_in p m d (low b a d h.1).2) ∙ circle_is (p a) (p b) (p c) (p d))) h.2)
        ]
    over a b c (inr (inl f)) =
        elim (g.under a b f.0) [
          | inl e ↦ inl (inl e)
          | inr h ↦
              let d = h.0 in
              let l = low b a d h.1 in
              inr (
                d,
                inl h.1,
                subst (λ n. D (w a) (w b) (w n) (w d) ≤ℤ pos 0) (sym f.1)
                    (subst (λ z. z ≤ℤ pos 0) (sym (rims a b d l.1 l.0 l.2)) (neg-≤ (S (p a) (p b) (p d)) (S (p b) (p a) (p d)) (S-swap (p a) (p b) (p d)) (g.left b a d h.1))),
              )
        ]
    over a b c (inr (inr (inl f))) =
        -- from a to inf, where the outer half c to a stands before
        elim (g.next c a f.0) [
          | inl e ↦ inl (inl (ap suc e ∙ sym f.1))
          | inr h ↦
              let d = h.0 in
              let k1 = g.out c a f.0 in
              let k2 = g.out a d h.1 in
              inr (
                d,
                inr (inr (inr (h.1, f.1))),
                subst (λ n. D (w a) (w n) (w c) (w d) ≤ℤ pos 0) (sym f.1)
                    (subst (λ z. z ≤ℤ pos 0) (D-rot (w c) (w a) (w (suc m)) (w d)) (subst (λ z. z ≤ℤ pos 0) (sym (rims c a d (omega arith) (omega arith) (omega arith))) h.2)),
              )
        ]
    over a b c (inr (inr (inr f))) =
        -- from inf to b, where the outer half b to c stands behind
        elim (g.prev b c f.0) [
          | inl e ↦ inl (inr (ap suc f.1, e))
          | inr h ↦
              let d = h.0 in
              let k1 = g.out b c f.0 in
              let k2 = g.out d b h.1 in
              inr (
                d,
                inr (inr (inl (h.1, f.1))),
                subst (λ n. D (w n) (w b) (w c) (w d) ≤ℤ pos 0) (sym f.1)
                    (subst (λ z. z ≤ℤ pos 0) (sym (D-rot (w (suc m)) (w b) (w c) (w d) ∙ rims b c d (omega arith) (omega arith) (omega arith)))
                    (subst (λ z. z ≤ℤ pos 0) (S-cyc (p d) (p b) (p c)) h.2)),
              )
        ]

    pieces : Pieces w (suc (suc m)) F
    pieces = record { order = order; turn = turn; over = over }

    all : (a b c j : ℕ) → F a b c → j < suc (suc m) → D (w a) (w b) (w c) (w j) ≤ℤ pos 0
    all = polygon w (suc (suc m)) (eye o) F seen pieces

    -- each face, ghosts too, at an entry
    out_at : (a b c : ℕ) (q : Pt) → F a b c → pos 0 <ℤ far o q → pos 0 ≤ℤ S o (p 0) q → pos 0 ≤ℤ S o q (p m)
        → ((i : ℕ) → i < m → pos 0 ≤ℤ C (p i) (p (suc i)) q o) → D (w a) (w b) (w c) (lift q) ≤ℤ pos 0
    out_at a b c q f hq h0 hm h =
        let t = surround q h0 hm in
        let i = t.0 in
        let li = t.1 in
        let e = s.ahead i t.1 in
        let sq = neg-≥ (S o q (p (suc i))) (S o (p (suc i)) q) (S-back o q (p (suc i))) t.3 in
        empty_at (w a) (w b) (w c) o (p i) (p (suc i)) q e t.2 sq (h i t.1) (sector_side o (p i) (p (suc i)) q e t.2 sq hq (h i t.1))
        (subst (λ z. D (w a) (w b) (w c) z ≤ℤ pos 0) (rim_in p m i (omega arith)) (all a b c i f (omega arith)))
        (subst (λ z. D (w a) (w b) (w c) z ≤ℤ pos 0) (rim_in p m (suc i) (omega arith)) (all a b c (suc i) f (omega arith)))
        (subst (λ z. D (w a) (w b) (w c) z ≤ℤ pos 0) (rim_out p m) (all a b c (suc m) f (omega arith)))
        (held_cyc a b c (order a b c f))

    -- ---- the circle rule for new faces, the hull rule for new outer halves: at the places of the chain, and at the other entries
    pub ring_out : (a b c j : ℕ) → G a b c → j ≤ m → C (p a) (p b) (p c) (p j) ≤ℤ pos 0
    ring_out a b c j f h =
        let l = low a b c f in
        subst (λ z. z ≤ℤ pos 0) (same4 (rim_in p m a l.0) (rim_in p m b l.1) (rim_in p m c l.2) (rim_in p m j h) ∙ circle_is (p a) (p b) (p c) (p j)) (all a b c j (inl f) (omega arith))

    pub ring_right : (a b j : ℕ) → O a b → j ≤ m → S (p a) (p b) (p j) ≤ℤ pos 0
    ring_right a b j f h =
        let l = g.out a b f in
        subst (λ z. z ≤ℤ pos 0) (rims a b j (omega arith) l.1 h) (all a b (suc m) j (inr (inl (f, refl))) (omega arith))

    pub empties : (a b c : ℕ) (q : Pt) → G a b c → pos 0 <ℤ far o q → pos 0 ≤ℤ S o (p 0) q → pos 0 ≤ℤ S o q (p m)
        → ((i : ℕ) → i < m → pos 0 ≤ℤ C (p i) (p (suc i)) q o) → C (p a) (p b) (p c) q ≤ℤ pos 0
    empties a b c q f hq h0 hm h =
        let l = low a b c f in
        subst (λ z. z ≤ℤ pos 0) (same4 (rim_in p m a l.0) (rim_in p m b l.1) (rim_in p m c l.2) refl ∙ circle_is (p a) (p b) (p c) q) (out_at a b c q (inl f) hq h0 hm h)

    pub rights : (a b : ℕ) (q : Pt) → O a b → pos 0 <ℤ far o q → pos 0 ≤ℤ S o (p 0) q → pos 0 ≤ℤ S o q (p m)
        → ((i : ℕ) → i < m → pos 0 ≤ℤ C (p i) (p (suc i)) q o) → S (p a) (p b) q ≤ℤ pos 0
    rights a b q f hq h0 hm h =
        let l = g.out a b f in
        subst (λ z. z ≤ℤ pos 0) (same4 (rim_in p m a (omega arith)) (rim_in p m b l.1) (rim_out p m) refl ∙ cross_out (p a) (p b) q) (out_at a b (suc m) q (inr (inl (f, refl))) hq h0 hm h)
