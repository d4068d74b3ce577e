-- A new face: it turns left, and it is empty.
use Rattle.std.proofs.Common.{◌≡◌, ℤ, pos, ◌+ℤ◌, ◌-ℤ◌, ◌*ℤ◌, neg_ℤ, ◌≤ℤ◌, ◌<ℤ◌, sym, ap, ◌∙◌, subst, inl, inr, arith}
use lib.IntN.{*ℤ-zero}
use borrow.Author.Differences.{ints}
use Rattle.zring.proofs.Laws.{neg_mul}
use Rattle.zring.proofs.Signs.{mul-≥≥, mul->>, mul-≤≥, mul-≥≤, mul-≤≤, cancel-≤, weaken, sign-≥, neg_zero, both_zero, neg-back-≥}
use Rattle.plane.specs.Plane.{Pt, S, C, far}
use Rattle.plane.specs.Vec.{Vec, D, lift, inf}
use Rattle.plane.specs.Signs.{top}
use Rattle.plane.proofs.Forms.{sector}
use Rattle.plane.proofs.Places.{circle_is, side_is, cross_is}
use Rattle.plane.proofs.Terms.{height}
use Rattle.plane.proofs.Sides.{area}
use Rattle.plane.proofs.Circles.{C-turn}
use Rattle.plane.proofs.Signs.{far-≥}

-- q by the sector from a to b around o, under the form of a face
pub by_sector : (x y z : Vec) (o a b q : Pt) → S o a b *ℤ D x y z (lift q) ≡ S o q b *ℤ D x y z (lift a) +ℤ S o a q *ℤ D x y z (lift b) +ℤ C a b q o *ℤ D x y z inf +ℤ S a b q *ℤ D x y z (lift o)
by_sector x y z o a b q =
    ap (λ t. t *ℤ D x y z (lift q)) (sym (cross_is a b o))
    ∙ sector x y z (lift a) (lift b) (lift q) inf (lift o)
    ∙ ap (λ t. t *ℤ D x y z (lift a) +ℤ D (lift a) (lift q) inf (lift o) *ℤ D x y z (lift b) +ℤ D (lift a) (lift b) (lift q) (lift o) *ℤ D x y z inf -ℤ D (lift a) (lift b) (lift q) inf *ℤ D x y z (lift o)) (cross_is q b o)
    ∙ ap (λ t. S o q b *ℤ D x y z (lift a) +ℤ t *ℤ D x y z (lift b) +ℤ D (lift a) (lift b) (lift q) (lift o) *ℤ D x y z inf -ℤ D (lift a) (lift b) (lift q) inf *ℤ D x y z (lift o)) (cross_is a q o)
    ∙ ap (λ t. S o q b *ℤ D x y z (lift a) +ℤ S o a q *ℤ D x y z (lift b) +ℤ t *ℤ D x y z inf -ℤ D (lift a) (lift b) (lift q) inf *ℤ D x y z (lift o)) (circle_is a b q o)
    ∙ last (S o q b *ℤ D x y z (lift a) +ℤ S o a q *ℤ D x y z (lift b) +ℤ C a b q o *ℤ D x y z inf) (D (lift a) (lift b) (lift q) inf *ℤ D x y z (lift o)) (S a b q *ℤ D x y z (lift o))
    (ap (λ t. t *ℤ D x y z (lift o)) (side_is a b q) ∙ neg_mul (S a b q) (D x y z (lift o)))
  where
    last : (m n l : ℤ) → n ≡ neg_ℤ l → m -ℤ n ≡ m +ℤ l
    last m n l e = omega (arith, ints)

-- q is in the sector from a to b around o: a face that holds neither a, b nor inf inside, and o not outside, does not hold q
pub empty_at : (x y z : Vec) (o a b q : Pt) → pos 0 <ℤ S o a b → pos 0 ≤ℤ S o a q → pos 0 ≤ℤ S o q b → pos 0 ≤ℤ C a b q o → S a b q ≤ℤ pos 0
    → D x y z (lift a) ≤ℤ pos 0 → D x y z (lift b) ≤ℤ pos 0 → D x y z inf ≤ℤ pos 0 → pos 0 ≤ℤ D x y z (lift o) → D x y z (lift q) ≤ℤ pos 0
empty_at x y z o a b q hab haq hqb hc hs ha hb hi ho =
    cancel-≤ (S o a b) (D x y z (lift q)) hab
    (go (S o a b *ℤ D x y z (lift q)) (S o q b *ℤ D x y z (lift a)) (S o a q *ℤ D x y z (lift b)) (C a b q o *ℤ D x y z inf) (S a b q *ℤ D x y z (lift o))
    (by_sector x y z o a b q) (mul-≥≤ (S o q b) (D x y z (lift a)) hqb ha) (mul-≥≤ (S o a q) (D x y z (lift b)) haq hb) (mul-≥≤ (C a b q o) (D x y z inf) hc hi) (mul-≤≥ (S a b q) (D x y z (lift o)) hs ho))
  where
    go : (m s t u w : ℤ) → m ≡ s +ℤ t +ℤ u +ℤ w → s ≤ℤ pos 0 → t ≤ℤ pos 0 → u ≤ℤ pos 0 → w ≤ℤ pos 0 → m ≤ℤ pos 0
    go m s t u w e p q r x = omega (arith, ints)

-- the sector from p to n around o lies opposite to the corner e of the face a b c
pub turns_left : (o p n e a b c : Pt) → pos 0 <ℤ S o p n → S o p e ≤ℤ pos 0 → S o e n ≤ℤ pos 0 → pos 0 <ℤ far o e
    → C a b c e ≡ pos 0 → C a b c p ≤ℤ pos 0 → C a b c n ≤ℤ pos 0 → pos 0 ≤ℤ C a b c o → pos 0 <ℤ (top *ℤ C a b c o +ℤ S a b c) → pos 0 <ℤ S a b c
turns_left o p n e a b c hpn hpe hen he ze hp hn ho h =
    let x = lift a in
    let y = lift b in
    let z = lift c in
    let at = circle_is a b c in
    let low : (q : Pt) → C a b c q ≤ℤ pos 0 → D x y z (lift q) ≤ℤ pos 0 = λ q l. subst (λ t. t ≤ℤ pos 0) (sym (at q)) l in
    let ho' : pos 0 ≤ℤ D x y z (lift o) = subst (λ t. pos 0 ≤ℤ t) (sym (at o)) ho in
    let K : pos 0 <ℤ C p n e o =
    kept (C p n e o) (C p e n o) (S o e n *ℤ far o p) (S o p e *ℤ far o n) (S o p n *ℤ far o e) (C-turn p n e o) (height o p e n)
    (mul-≤≥ (S o e n) (far o p) hen (far-≥ o p)) (mul-≤≥ (S o p e) (far o n) hpe (far-≥ o n)) (mul->> (S o p n) (far o e) hpn he) in
    let s : pos 0 <ℤ S p n e = wide (S p n e) (S o p n) (S o e n) (S o p e) (area o p n e) hpn hen hpe in
    let eq : pos 0 ≡ S o e n *ℤ D x y z (lift p) +ℤ S o p e *ℤ D x y z (lift n) +ℤ C p n e o *ℤ D x y z inf +ℤ S p n e *ℤ D x y z (lift o) =
    sym (ap (λ t. S o p n *ℤ t) (at e ∙ ze) ∙ *ℤ-zero (S o p n)) ∙ by_sector x y z o p n e in
    let A = S o e n *ℤ D x y z (lift p) in
    let B = S o p e *ℤ D x y z (lift n) in
    let h_a : pos 0 ≤ℤ A = mul-≤≤ (S o e n) (D x y z (lift p)) hen (low p hp) in
    let h_b : pos 0 ≤ℤ B = mul-≤≤ (S o p e) (D x y z (lift n)) hpe (low n hn) in
    let h_o : pos 0 ≤ℤ (S p n e *ℤ D x y z (lift o)) = mul-≥≥ (S p n e) (D x y z (lift o)) (weaken (pos 0) (S p n e) s) ho' in
    let hi : D x y z inf ≤ℤ pos 0 = cancel-≤ (C p n e o) (D x y z inf) K (third A B (C p n e o *ℤ D x y z inf) (S p n e *ℤ D x y z (lift o)) eq h_a h_b h_o) in
    let ge : pos 0 ≤ℤ S a b c = neg-back-≥ (D x y z inf) (S a b c) (side_is a b c) hi in
    elim (sign-≥ (S a b c) ge) [
      | inr g ↦ g
      | inl g ↦
          let iz : D x y z inf ≡ pos 0 = neg_zero (D x y z inf) (S a b c) (side_is a b c) g in
          let ol : D x y z (lift o) ≤ℤ pos 0 =
          cancel-≤ (S p n e) (D x y z (lift o)) s
          (fourth A B (C p n e o *ℤ D x y z inf) (S p n e *ℤ D x y z (lift o)) eq h_a h_b (ap (λ t. C p n e o *ℤ t) iz ∙ *ℤ-zero (C p n e o))) in
          let oz : C a b c o ≡ pos 0 = both_zero (C a b c o) ho (subst (λ t. t ≤ℤ pos 0) (at o) ol) in
          absurd (nothing (top *ℤ C a b c o) (S a b c) (ap (λ t. top *ℤ t) oz ∙ *ℤ-zero top) g h)
    ]
  where
    kept : (z y s t m : ℤ) → z ≡ neg_ℤ y → y ≡ (s +ℤ t) -ℤ m → s ≤ℤ pos 0 → t ≤ℤ pos 0 → pos 0 <ℤ m → pos 0 <ℤ z
    kept z y s t m e f p q r = omega (arith, ints)

    wide : (s m u t : ℤ) → s ≡ m -ℤ u -ℤ t → pos 0 <ℤ m → u ≤ℤ pos 0 → t ≤ℤ pos 0 → pos 0 <ℤ s
    wide s m u t e p q r = omega (arith, ints)

    third : (a b c d : ℤ) → pos 0 ≡ a +ℤ b +ℤ c +ℤ d → pos 0 ≤ℤ a → pos 0 ≤ℤ b → pos 0 ≤ℤ d → c ≤ℤ pos 0
    third a b c d e p q r = omega (arith, ints)

    fourth : (a b c d : ℤ) → pos 0 ≡ a +ℤ b +ℤ c +ℤ d → pos 0 ≤ℤ a → pos 0 ≤ℤ b → c ≡ pos 0 → d ≤ℤ pos 0
    fourth a b c d e p q r = omega (arith, ints)

    nothing : (m s : ℤ) → m ≡ pos 0 → s ≡ pos 0 → pos 0 <ℤ (m +ℤ s) → ⊥
    nothing m s e f h = omega (arith, ints)
