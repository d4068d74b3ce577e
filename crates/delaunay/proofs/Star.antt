-- An entry inside: the new faces turn left and are empty.
use Rattle.std.proofs.Common.{◌≡◌, ℕ, suc, ◌<◌, [], ◌∷◌, ℤ, pos, ◌+ℤ◌, ◌-ℤ◌, ◌*ℤ◌, neg_ℤ, ◌≤ℤ◌, ◌<ℤ◌, sym, ap, ◌∙◌, subst, ap₂, inl, inr, eq-or-lt_of_le, arith}
use borrow.Author.Differences.{ints}
use Rattle.zring.proofs.Ring.{◌⊹◌, ◌⊖◌, ◌⊛◌, ⊝◌, ring}
use Rattle.zring.proofs.Signs.{weaken, neg-≥, neg-≤}
use Rattle.plane.specs.Plane.{Pt, pt, S, C, far}
use Rattle.plane.specs.Vec.{Vec, D, lift, inf, less}
use Rattle.plane.specs.Signs.{top}
use Rattle.plane.proofs.Sym.{X, Y, SE, coords}
use Rattle.plane.proofs.Sides.{S-cyc}
use Rattle.plane.proofs.Forms.{D-less}
use Rattle.plane.proofs.Places.{circle_is, side_is}
use Rattle.plane.proofs.Circles.{C-rot, C-on}
use Rattle.plane.proofs.Signs.{far_ends, sector_side}
use Rattle.plane.proofs.Convex.{convex_at, strict_at}
use Rattle.plane.proofs.Bounds.{side_small as small}
use Rattle.planar.proofs.Terms.{S-back}
use Rattle.delaunay.specs.Ring.{Cyc, Seen, Pieces}
use Rattle.delaunay.specs.Star.{Star, Faces}
use Rattle.delaunay.proofs.Gaps.{polygon}
use Rattle.delaunay.proofs.New.{empty_at, turns_left}

-- the vector from which a ring is seen
abbrev pub eye : Pt → Vec
eye o = less top (lift o) inf

pub seen_is : (o a b c : Pt) → D (lift a) (lift b) (lift c) (eye o) ≡ top *ℤ C a b c o +ℤ S a b c
seen_is o a b c =
    D-less (lift a) (lift b) (lift c) (lift o) inf top ∙ ap₂ (λ s t. top *ℤ s -ℤ t) (circle_is a b c o) (side_is a b c) ∙ out (top *ℤ C a b c o) (S a b c)
  where
    out : (m s : ℤ) → m -ℤ neg_ℤ s ≡ m +ℤ s
    out m s = omega (arith, ints)

-- the place across o
abbrev mirror : Pt → Pt → Pt
mirror o q = pt (o.x +ℤ o.x -ℤ q.x) (o.y +ℤ o.y -ℤ q.y)

mirror_is : (o a q : Pt) → S o a (mirror o q) ≡ neg_ℤ (S o a q)
unfolding S
mirror_is o a q =
    ring ((X 1 ⊖ X 0) ⊛ ((Y 0 ⊹ Y 0 ⊖ Y 2) ⊖ Y 0) ⊖ (Y 1 ⊖ Y 0) ⊛ ((X 0 ⊹ X 0 ⊖ X 2) ⊖ X 0)) (⊝ SE 0 1 2) (coords (o ∷ a ∷ q ∷ [])) tt

module _ (o : Pt) (p : ℕ → Pt) (k : ℕ) (s : Star o p k) where
  -- [a, b, c] is not negative
  pub round : (i j l : ℕ) → i < j → j < l → l < k → pos 0 ≤ℤ C (p i) (p j) (p l) o
  round i j l hij hjl hl =
      elim (s.around i j l hij hjl hl).most [
        | inl h ↦ convex_at o (p i) (p j) (p l) (p (suc j)) h.0 h.1 (s.ahead j (omega arith)) (s.empty j i (omega arith) (omega arith)) (s.empty j l (omega arith) hl)
        | inr (inl h) ↦ subst (λ z. pos 0 ≤ℤ z) (sym (C-rot (p i) (p j) (p l) o))
            (convex_at o (p j) (p l) (p i) (p (suc l)) h.0 h.1 (s.ahead l hl) (s.empty l j hl (omega arith)) (s.empty l i hl (omega arith)))
        | inr (inr h) ↦ subst (λ z. pos 0 ≤ℤ z) (C-rot (p l) (p i) (p j) o)
            (convex_at o (p l) (p i) (p j) (p (suc i)) h.0 h.1 (s.ahead i (omega arith)) (s.empty i l (omega arith) hl) (s.empty i j (omega arith) (omega arith)))
      ]

  pub round_strict : (i j l : ℕ) → i < j → j < l → l < k → pos 0 <ℤ (top *ℤ C (p i) (p j) (p l) o +ℤ S (p i) (p j) (p l))
  round_strict i j l hij hjl hl =
      let si = s.small i (omega arith) in
      let sj = s.small j (omega arith) in
      let sl = s.small l hl in
      let r = round i j l hij hjl hl in
      elim (s.around i j l hij hjl hl).most [
        | inl h ↦ strict_at o (p i) (p j) (p l) (small (p i) (p j) (p l) si sj sl) h.0 h.1 r
        | inr (inl h) ↦ subst (λ z. pos 0 <ℤ z) (sym (ap₂ (λ x y. top *ℤ x +ℤ y) (C-rot (p i) (p j) (p l) o) (S-cyc (p i) (p j) (p l))))
            (strict_at o (p j) (p l) (p i) (small (p j) (p l) (p i) sj sl si) h.0 h.1 (subst (λ z. pos 0 ≤ℤ z) (C-rot (p i) (p j) (p l) o) r))
        | inr (inr h) ↦ subst (λ z. pos 0 <ℤ z) (ap₂ (λ x y. top *ℤ x +ℤ y) (C-rot (p l) (p i) (p j) o) (S-cyc (p l) (p i) (p j)))
            (strict_at o (p l) (p i) (p j) (small (p l) (p i) (p j) sl si sj) h.0 h.1 (subst (λ z. pos 0 ≤ℤ z) (sym (C-rot (p l) (p i) (p j) o)) r))
      ]

  pub seen : Seen (λ i. lift (p i)) k (eye o)
  seen =
      record {
        weak = λ i j l hij hjl hl. subst (λ z. pos 0 ≤ℤ z) (sym (seen_is o (p i) (p j) (p l))) (weaken (pos 0) (top *ℤ C (p i) (p j) (p l) o +ℤ S (p i) (p j) (p l)) (round_strict i j l hij hjl hl));
        strict = λ i j l hij hjl hl _. subst (λ z. pos 0 <ℤ z) (sym (seen_is o (p i) (p j) (p l))) (round_strict i j l hij hjl hl);
      }

  -- in the order of the ring
  pub round_cyc : (a b c : ℕ) → Cyc k a b c → pos 0 ≤ℤ C (p a) (p b) (p c) o
  round_cyc a b c (inl h) = round a b c h.0 h.1 h.2
  round_cyc a b c (inr (inl h)) = subst (λ z. pos 0 ≤ℤ z) (sym (C-rot (p a) (p b) (p c) o)) (round b c a h.0 h.1 h.2)
  round_cyc a b c (inr (inr h)) = subst (λ z. pos 0 ≤ℤ z) (C-rot (p c) (p a) (p b) o) (round c a b h.0 h.1 h.2)

  strict_cyc : (a b c : ℕ) → Cyc k a b c → pos 0 <ℤ (top *ℤ C (p a) (p b) (p c) o +ℤ S (p a) (p b) (p c))
  strict_cyc a b c (inl h) = round_strict a b c h.0 h.1 h.2
  strict_cyc a b c (inr (inl h)) =
      subst (λ z. pos 0 <ℤ z) (sym (ap₂ (λ x y. top *ℤ x +ℤ y) (C-rot (p a) (p b) (p c) o) (S-cyc (p a) (p b) (p c)))) (round_strict b c a h.0 h.1 h.2)
  strict_cyc a b c (inr (inr h)) =
      subst (λ z. pos 0 <ℤ z) (ap₂ (λ x y. top *ℤ x +ℤ y) (C-rot (p c) (p a) (p b) o) (S-cyc (p c) (p a) (p b))) (round_strict c a b h.0 h.1 h.2)

  -- ---- the new faces
  module _ (F : ℕ → ℕ → ℕ → Type 0) (g : Faces p k F) where
    pieces : Pieces (λ i. lift (p i)) k F
    pieces =
        record {
          order = g.order;
          turn = g.turn;
          over = λ a b c f. elim (g.over a b c f) [
            | inl e ↦ inl e
            | inr w ↦ inr (w.0, w.1, subst (λ z. z ≤ℤ pos 0) (sym (circle_is (p a) (p b) (p c) (p w.0))) w.2)
          ];
        }

    -- no place of the ring is inside
    pub ring_out : (a b c j : ℕ) → F a b c → j < k → C (p a) (p b) (p c) (p j) ≤ℤ pos 0
    ring_out a b c j f h =
        subst (λ z. z ≤ℤ pos 0) (circle_is (p a) (p b) (p c) (p j)) (polygon (λ i. lift (p i)) k (eye o) F seen pieces a b c j f h)

    -- and at the number after the last
    ring_out' : (a b c j : ℕ) → F a b c → j < k → C (p a) (p b) (p c) (p (suc j)) ≤ℤ pos 0
    ring_out' a b c j f h =
        elim (eq-or-lt_of_le h) [
          | inl e ↦ subst (λ z. C (p a) (p b) (p c) z ≤ℤ pos 0) (sym (ap p e ∙ s.closed)) (ring_out a b c 0 f (omega arith))
          | inr l ↦ ring_out a b c (suc j) f l
        ]

    -- they turn left
    pub lefts : (a b c : ℕ) → F a b c → pos 0 <ℤ S (p a) (p b) (p c)
    lefts a b c f =
        let y = g.order a b c f in
        let lb = below y in
        let t = s.sector (mirror o (p b)) in
        let i = t.0 in
        turns_left o (p i) (p (suc i)) (p b) (p a) (p b) (p c) (s.ahead i t.1)
        (neg_out (S o (p i) (p b)) (S o (p i) (mirror o (p b))) (mirror_is o (p i) (p b)) t.2)
        (neg_neg (S o (p b) (p (suc i))) (S o (p (suc i)) (p b)) (S o (p (suc i)) (mirror o (p b))) (S-back o (p b) (p (suc i))) (mirror_is o (p (suc i)) (p b)) t.3)
        (far_ends o (p b) (p (suc b)) (s.ahead b lb)).0
        (C-on (p a) (p b) (p c)) (ring_out a b c i f t.1) (ring_out' a b c i f t.1) (round_cyc a b c y) (strict_cyc a b c y)
      where
        below : Cyc k a b c → b < k
        below y = omega arith

        neg_out : (x y : ℤ) → y ≡ neg_ℤ x → pos 0 ≤ℤ y → x ≤ℤ pos 0
        neg_out x y e h = omega (arith, ints)

        neg_neg : (x y z : ℤ) → x ≡ neg_ℤ y → z ≡ neg_ℤ y → z ≤ℤ pos 0 → x ≤ℤ pos 0
        neg_neg x y z e f h = omega (arith, ints)

    -- they are empty: at each place that no star face holds inside
    pub empties : (a b c : ℕ) (q : Pt) → F a b c → pos 0 <ℤ far o q → ((i : ℕ) → i < k → pos 0 ≤ℤ C (p i) (p (suc i)) q o) → C (p a) (p b) (p c) q ≤ℤ pos 0
    empties a b c q f hq h =
        let t = s.sector q in
        let i = t.0 in
        let at = circle_is (p a) (p b) (p c) in
        let sq = neg-≥ (S o q (p (suc i))) (S o (p (suc i)) q) (S-back o q (p (suc i))) t.3 in
        let e = s.ahead i t.1 in
        subst (λ z. z ≤ℤ pos 0) (at q)
        (empty_at (lift (p a)) (lift (p b)) (lift (p c)) o (p i) (p (suc i)) q e t.2 sq (h i t.1)
        (sector_side o (p i) (p (suc i)) q e t.2 sq hq (h i t.1))
        (subst (λ z. z ≤ℤ pos 0) (sym (at (p i))) (ring_out a b c i f t.1))
        (subst (λ z. z ≤ℤ pos 0) (sym (at (p (suc i)))) (ring_out' a b c i f t.1))
        (neg-≤ (D (lift (p a)) (lift (p b)) (lift (p c)) inf) (S (p a) (p b) (p c)) (side_is (p a) (p b) (p c)) (weaken (pos 0) (S (p a) (p b) (p c)) (lefts a b c f)))
        (subst (λ z. pos 0 ≤ℤ z) (sym (at o)) (round_cyc a b c (g.order a b c f))))
