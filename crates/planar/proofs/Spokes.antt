-- Places differ, spokes differ, and at most one spoke is outer.
use mathlib.Core.Path.{◌≡◌, refl, sym, ◌∙◌, ap, ap₂, subst}
use mathlib.Core.List.{[], ◌∷◌}
use mathlib.Core.Logic.{◌⊎◌, inl, inr}
use Prim.Native.Nat.{ℕ, zero, suc, ◌*◌, ◌≤◌, ◌<◌}
use native.Mathlib.Omega.{arith}
use native.Mathlib.Decide.{dec_le}
use lib.IntN.{ℤ, pos, negsuc, ◌+ℤ◌, ◌-ℤ◌, ◌*ℤ◌, zero-*ℤ, +ℤ_comm, ℤ_discrete}
use lib.Signed.{◌≤ℤ◌, ◌<ℤ◌}
use borrow.Author.Differences.{ints}
use Rattle.zring.proofs.Ring.{v as var, k as num, ◌⊹◌, ◌⊖◌, ◌⊛◌, ring}
use Rattle.zring.proofs.Signs.{mul-≥≥, mul->>, mul-≤≤, cancel-≥, sq-≥, zero-≤, clash, diff-≥, neg_both, neg_zero, both_zero}
use Rattle.plane.specs.Plane.{Pt, S, far, dot}
use Rattle.plane.proofs.Sym.{SE, coords, TE, FE}
use Rattle.plane.proofs.Sides.{S-cyc, S-split}
use Rattle.plane.proofs.Terms.{lagrange}
use Rattle.links.specs.Links.{to, place}
use Rattle.planar.specs.Order.{Along}
use Rattle.planar.specs.Star.{PlacesDiffer, EndsDiffer, SpokesDiffer, OneOuter}
use Rattle.planar.proofs.Terms.{S-first, S-back, dot_swap}
use Rattle.planar.proofs.Hull.{either_way, length-≥}
use Rattle.planar.proofs.Order.{sign}
use Rattle.planar.proofs.Turning.{same_place, no_ray}
use Rattle.planar.proofs.Faces.{two, to_in}
use Rattle.planar.proofs.Views.{On, ranges_of, weave_of, triangles_of, edges_of, right_of}

-- ---- places
dot_first : (a b : Pt) → dot a a b ≡ pos 0
unfolding dot
dot_first a b = ring (TE 0 0 1) (num (pos 0)) (coords (a ∷ b ∷ [])) tt

at_start : (a b : Pt) → On a b a
at_start a b = record { line = S-first a b; between = zero-≤ (dot a a b) (dot_first a b) }

pub places_differ : PlacesDiffer
places_differ m s u w lu lw e = go (dec_le 2 m.n)
  where
    go : Dec (2 ≤ m.n) → u ≡ w
    go (no d) = omega arith
    go (yes t) =
        let h = m.out u in
        let hl = (ranges_of m s).out_in u lu t in
        let here = (weave_of m s).out_at u lu t in
        elim ((edges_of m s).clear h w hl lw (subst (λ q. On (place m (m.origin h)) (place m (to m h)) q) (ap (place m) here ∙ e) (at_start (place m (m.origin h)) (place m (to m h))))) [
          | inl q ↦ sym (q ∙ here)
          | inr q ↦ absurd ((edges_of m s).apart h hl (ap (place m) here ∙ e ∙ ap (place m) q))
        ]

-- ---- directions
-- a squared distance as a scalar product
far_dot : (o b : Pt) → far o b ≡ dot o b b
unfolding far dot
far_dot o b = ring (FE 0 1) (TE 0 1 1) (coords (o ∷ b ∷ [])) tt

-- the parts of b and c along each other
pub parts_of_squares : (o b c : Pt) → dot o b b *ℤ dot o c c ≡ dot o b c *ℤ dot o b c +ℤ S o b c *ℤ S o b c
parts_of_squares o b c =
    ap₂ ◌*ℤ◌ (sym (far_dot o b)) (sym (far_dot o c)) ∙ lagrange o b c ∙ +ℤ_comm (S o b c *ℤ S o b c) (dot o b c *ℤ dot o b c)

pub dot_nearer : (o b c : Pt) → dot b o c ≡ dot o b b -ℤ dot o b c
unfolding dot
dot_nearer o b c = ring (TE 1 0 2) (TE 0 1 1 ⊖ TE 0 1 2) (coords (o ∷ b ∷ c ∷ [])) tt

-- one of two in one direction is no farther than the other
nearer : (o b c : Pt) → Along o b c → On o c b ⊎ On o b c
nearer o b c al = go (either_way (dot o b b) (dot o b c))
  where
    below : (z p q : ℤ) → z ≡ p -ℤ q → p ≤ℤ q → z ≤ℤ pos 0
    below z p q e h = omega (arith, ints)

    -- |b|² ≥ b·c > 0 and |b|²|c|² = (b·c)² give |c|² ≤ b·c
    short : (bb cc bc s : ℤ) → bb *ℤ cc ≡ bc *ℤ bc +ℤ s *ℤ s → s ≡ pos 0 → pos 0 <ℤ bc → bc ≤ℤ bb → pos 0 ≤ℤ cc → cc ≤ℤ bc
    short bb cc bc s e z h l c = elim (sign (cc -ℤ bc)) [ inl q ↦ small q | inr q ↦ absurd (over q) ]
      where
        small : (cc -ℤ bc) ≤ℤ pos 0 → cc ≤ℤ bc
        small q = omega (arith, ints)

        over : pos 0 <ℤ (cc -ℤ bc) → ⊥
        over q =
            let a = ring (var 0 ⊛ var 1 ⊖ var 2 ⊛ var 2) ((var 0 ⊖ var 2) ⊛ var 1 ⊹ var 2 ⊛ (var 1 ⊖ var 2)) (bb ∷ cc ∷ bc ∷ []) tt in
            clash (bb *ℤ cc) (bc *ℤ bc) (s *ℤ s) ((bb -ℤ bc) *ℤ cc) (bc *ℤ (cc -ℤ bc)) e (ap (λ y. y *ℤ s) z ∙ zero-*ℤ s) a (mul-≥≥ (bb -ℤ bc) cc (diff-≥ bb bc l) c) (mul->> bc (cc -ℤ bc) h q)
          where
            clash : (x y w p r : ℤ) → x ≡ y +ℤ w → w ≡ pos 0 → x -ℤ y ≡ p +ℤ r → pos 0 ≤ℤ p → pos 0 <ℤ r → ⊥
            clash x y w p r e f g h l = omega (arith, ints)

    go : (dot o b b ≤ℤ dot o b c) ⊎ (dot o b c ≤ℤ dot o b b) → On o c b ⊎ On o b c
    go (inl h) = inl (record { line = neg_zero (S o c b) (S o b c) (S-back o c b) al.line; between = below (dot b o c) (dot o b b) (dot o b c) (dot_nearer o b c) h })
    go (inr h) = inr (record {
      line = al.line;
      between = below (dot c o b) (dot o c c) (dot o c b) (dot_nearer o c b)
          (subst (λ z. dot o c c ≤ℤ z) (dot_swap o b c) (short (dot o b b) (dot o c c) (dot o b c) (S o b c) (parts_of_squares o b c) al.line al.ahead h (length-≥ o c)));
    })

pub ends_differ : EndsDiffer
ends_differ m s = (edges_of m s).only

pub spokes_differ : SpokesDiffer
spokes_differ m s h k hl kl e al = elim (nearer (at (m.origin h)) (at (to m h)) (at (to m k)) al) [
  | inl p ↦ elim ((edges_of m s).clear k (to m h) kl (to_in m (ranges_of m s) (weave_of m s) h hl) (subst (λ w. On (at w) (at (to m k)) (at (to m h))) e p)) [
    | inl q ↦ absurd ((weave_of m s).ends h hl (e ∙ sym q))
    | inr q ↦ (edges_of m s).only h k hl kl e q
  ]
  | inr p ↦ elim ((edges_of m s).clear h (to m k) hl (to_in m (ranges_of m s) (weave_of m s) k kl) p) [
    | inl q ↦ absurd ((weave_of m s).ends k kl (sym e ∙ sym q))
    | inr q ↦ (edges_of m s).only h k hl kl e (sym q)
  ]
]
  where
    at : ℕ → Pt
    at = place m

-- ---- outer spokes
-- opposite directions see opposite sides
pub opposite : (o b c q : Pt) → dot o b c *ℤ S o b q ≡ dot o b b *ℤ S o c q +ℤ S o b c *ℤ dot o b q
unfolding S dot
opposite o b c q = ring (TE 0 1 2 ⊛ SE 0 1 3) (TE 0 1 1 ⊛ SE 0 2 3 ⊹ SE 0 1 2 ⊛ TE 0 1 3) (coords (o ∷ b ∷ c ∷ q ∷ [])) tt

square_zero : (z : ℤ) → (z *ℤ z) ≤ℤ pos 0 → z ≡ pos 0
square_zero (pos zero) h = refl
square_zero (pos (suc n)) h = absurd (clash (pos (suc n) *ℤ pos (suc n)) (mul->> (pos (suc n)) (pos (suc n)) (omega (arith, ints)) (omega (arith, ints))) h)
square_zero (negsuc n) h = absurd (clash (suc n * suc n) (omega arith) h)
  where
    clash : (z : ℕ) → 0 < z → pos z ≤ℤ pos 0 → ⊥
    clash z h l = omega (arith, ints)

pub length-> : (o b : Pt) → ¬ (b ≡ o) → pos 0 <ℤ dot o b b
unfolding dot
length-> o b n = elim (sign (dot o b b)) [ inr h ↦ h | inl h ↦ absurd (n (same_place b o (level b.x o.x (left h)) (level b.y o.y (right h)))) ]
  where
    dx : ℤ
    dx = b.x -ℤ o.x

    dy : ℤ
    dy = b.y -ℤ o.y

    part : (p q : ℤ) → (p +ℤ q) ≤ℤ pos 0 → pos 0 ≤ℤ p → pos 0 ≤ℤ q → (p ≤ℤ pos 0) × (q ≤ℤ pos 0)
    part p q h a b = (omega (arith, ints), omega (arith, ints))

    left : dot o b b ≤ℤ pos 0 → dx ≡ pos 0
    left h = square_zero dx (part (dx *ℤ dx) (dy *ℤ dy) h (sq-≥ dx) (sq-≥ dy)).0

    right : dot o b b ≤ℤ pos 0 → dy ≡ pos 0
    right h = square_zero dy (part (dx *ℤ dx) (dy *ℤ dy) h (sq-≥ dx) (sq-≥ dy)).1

    level : (p q : ℤ) → p -ℤ q ≡ pos 0 → p ≡ q
    level p q e = omega (arith, ints)

pub far-> : (o b : Pt) → ¬ (b ≡ o) → pos 0 <ℤ far o b
far-> o b n = subst (λ z. pos 0 <ℤ z) (sym (far_dot o b)) (length-> o b n)

pub Pt-same? : (a b : Pt) → Dec (a ≡ b)
Pt-same? a b = go (ℤ_discrete a.x b.x) (ℤ_discrete a.y b.y)
  where
    go : Dec (a.x ≡ b.x) → Dec (a.y ≡ b.y) → Dec (a ≡ b)
    go (yes p) (yes q) = yes (λ i. record { x = p i; y = q i })
    go (yes p) (no q) = no (λ e. q (ap (λ z. z.y) e))
    go (no p) q = no (λ e. p (ap (λ z. z.x) e))

-- not one direction, but one line
pub against : (o b c q : Pt) → ¬ (b ≡ o) → S o b c ≡ pos 0 → dot o b c ≤ℤ pos 0 → S o b q ≤ℤ pos 0 → pos 0 ≤ℤ S o c q
against o b c q n e d h =
    cancel-≥ (dot o b b) (S o c q) (length-> o b n)
    (go (dot o b c *ℤ S o b q) (dot o b b *ℤ S o c q) (S o b c *ℤ dot o b q) (opposite o b c q) (ap (λ z. z *ℤ dot o b q) e ∙ zero-*ℤ (dot o b q)) (mul-≤≤ (dot o b c) (S o b q) d h))
  where
    go : (x y z : ℤ) → x ≡ y +ℤ z → z ≡ pos 0 → pos 0 ≤ℤ x → pos 0 ≤ℤ y
    go x y z e f h = omega (arith, ints)

-- three places on a line through o do not turn
pub flat : (o c p q r : Pt) → ¬ (c ≡ o) → S o c p ≡ pos 0 → S o c q ≡ pos 0 → S o c r ≡ pos 0 → pos 0 <ℤ S p q r → ⊥
flat o c p q r n hp hq hr h = some (sign (S o p q)) (sign (S o q r)) (sign (S o r p))
  where
    from_o : (a b : Pt) → S a b o ≡ S o a b
    from_o a b = sym (S-cyc o a b)

    sum0 : (x a b d : ℤ) → x ≡ a +ℤ b +ℤ d → pos 0 <ℤ x → a ≤ℤ pos 0 → b ≤ℤ pos 0 → d ≤ℤ pos 0 → ⊥
    sum0 x a b d e h u v w = omega (arith, ints)

    some : (S o p q ≤ℤ pos 0) ⊎ (pos 0 <ℤ S o p q) → (S o q r ≤ℤ pos 0) ⊎ (pos 0 <ℤ S o q r) → (S o r p ≤ℤ pos 0) ⊎ (pos 0 <ℤ S o r p) → ⊥
    some (inr a) b d = n (no_ray o c p q a hp hq)
    some (inl a) (inr b) d = n (no_ray o c q r b hq hr)
    some (inl a) (inl b) (inr d) = n (no_ray o c r p d hr hp)
    some (inl a) (inl b) (inl d) = sum0 (S p q r) (S o p q) (S o q r) (S o r p) (S-split p q r o ∙ ap₂ ◌+ℤ◌ (ap₂ ◌+ℤ◌ (from_o p q) (from_o q r)) (from_o r p)) h a b d

pub one_outer : OneOuter
one_outer m s f1 h g hl gl hf gf e = elim (sign (dot o b c)) [ inr d ↦ spokes_differ m s h g hl gl e (record { line = on; ahead = d }) | inl d ↦ absurd (line d) ]
  where
    o : Pt
    o = place m (m.origin h)

    b : Pt
    b = place m (to m h)

    c : Pt
    c = place m (to m g)

    right_h : (w : ℕ) → w < m.n → S o b (place m w) ≤ℤ pos 0
    right_h w l = right_of m s h w hl hf l

    right_g : (w : ℕ) → w < m.n → S o c (place m w) ≤ℤ pos 0
    right_g w l = subst (λ a. S (place m a) c (place m w) ≤ℤ pos 0) (sym e) (right_of m s g w gl gf l)

    on : S o b c ≡ pos 0
    on = neg_both (S o b c) (S o c b) (S-back o b c) (right_h (to m g) (to_in m (ranges_of m s) (weave_of m s) g gl)) (right_g (to m h) (to_in m (ranges_of m s) (weave_of m s) h hl))

    line : dot o b c ≤ℤ pos 0 → ⊥
    line d =
        let n2 = two m (ranges_of m s) (weave_of m s) h hl in
        let a = m.adj 1 in
        let al = (ranges_of m s).adj_in 1 f1 n2 in
        let al2 = (ranges_of m s).next_names a al in
        let al3 = (ranges_of m s).next_names (m.next a) al2 in
        flat o c (place m (m.origin a)) (place m (m.origin (m.next a))) (place m (m.origin (m.next (m.next a)))) (λ q. (edges_of m s).apart g gl (ap (place m) (sym e) ∙ sym q))
        (all (m.origin a) ((ranges_of m s).origin_names a al)) (all (m.origin (m.next a)) ((ranges_of m s).origin_names (m.next a) al2)) (all (m.origin (m.next (m.next a))) ((ranges_of m s).origin_names (m.next (m.next a)) al3))
        ((triangles_of m s).turns 1 (omega arith) f1)
      where
        all : (w : ℕ) → w < m.n → S o c (place m w) ≡ pos 0
        all w l = both_zero (S o c (place m w)) (against o b c (place m w) (λ q. (edges_of m s).apart h hl (sym q)) on d (right_h w l)) (right_g w l)
