-- How often a way around crosses the ray from o through t, counted with its direction.
use mathlib.Core.Path.{◌≡◌, refl, sym, ◌∙◌, ap, ap₂, subst}
use mathlib.Core.Bool.{Bool, true, false, not}
use mathlib.Core.Logic.{◌⊎◌, inl, inr}
use native.Mathlib.Omega.{arith}
use lib.Dec.{T}
use lib.IntN.{ℤ, pos, ◌+ℤ◌, ◌-ℤ◌, ◌*ℤ◌, neg_ℤ}
use lib.Signed.{◌≤ℤ◌, ◌<ℤ◌, lt_z, lt_z_yes, lt_z_no, clash_ℤ}
use borrow.Author.Differences.{ints}
use Rattle.zring.proofs.Signs.{mul->>, mul-><, mul-≤≥, mul-≥≤, mul-≤≤, weaken, neg-≤, neg-<, pos_or}
use Rattle.plane.specs.Plane.{Pt, S}
use Rattle.plane.proofs.Sides.{S-cyc, S-swap, S-split}
use Rattle.links.proofs.Decide.{is_true}
use Rattle.planar.proofs.Sums.{when, is_false}
use Rattle.planar.proofs.Terms.{S-first, S-last, mean, S-back}

abbrev pub above : ℤ → Bool
above z = lt_z (pos 0) z

abbrev pub bit : Bool → ℤ
bit c = when c (pos 1)

abbrev pub hit : Bool → Bool → Bool → ℤ
hit false true c = bit c
hit false false c = pos 0
hit true q c = pos 0

-- 1 where the way from a to b crosses the ray counterclockwise about o; a on the ray's line counts as right of it
abbrev pub crossing : Pt → Pt → Pt → Pt → ℤ
crossing o t a b = hit (above (S o t a)) (above (S o t b)) (above (S a b o))

pub count : Pt → Pt → Pt → Pt → ℤ
count o t a b = crossing o t a b -ℤ crossing o t b a

neg_sub : (p q : ℤ) → p -ℤ q ≡ neg_ℤ (q -ℤ p)
neg_sub p q = omega (arith, ints)

pub count_swap : (o t a b : Pt) → count o t b a ≡ neg_ℤ (count o t a b)
unfolding count
count_swap o t a b = neg_sub (crossing o t b a) (crossing o t a b)

-- ---- a triangle
bit_le : (p q : Bool) → (T p → T q) → bit p ≤ℤ bit q
bit_le true true i = omega (arith, ints)
bit_le true false i = absurd (i tt)
bit_le false true i = omega (arith, ints)
bit_le false false i = omega (arith, ints)

tri_bool : (pa pb pc cab cba cbc ccb cca cac : Bool)
    → (T (not pa) → T pb → T pc → T cac → T cab) → (T (not pb) → T pc → T pa → T cba → T cbc) → (T (not pc) → T pa → T pb → T ccb → T cca)
    → (T pa → T (not pb) → T (not pc) → T cba → T cca) → (T pb → T (not pc) → T (not pa) → T ccb → T cab) → (T pc → T (not pa) → T (not pb) → T cac → T cbc)
    → pos 0 ≤ℤ ((hit pa pb cab -ℤ hit pb pa cba) +ℤ (hit pb pc cbc -ℤ hit pc pb ccb) +ℤ (hit pc pa cca -ℤ hit pa pc cac))
tri_bool false false false cab cba cbc ccb cca cac ia ib ic ja jb jc = omega (arith, ints)
tri_bool false false true cab cba cbc ccb cca cac ia ib ic ja jb jc = let h = bit_le cac cbc (jc tt tt tt) in omega (arith, ints)
tri_bool false true false cab cba cbc ccb cca cac ia ib ic ja jb jc = let h = bit_le ccb cab (jb tt tt tt) in omega (arith, ints)
tri_bool false true true cab cba cbc ccb cca cac ia ib ic ja jb jc = let h = bit_le cac cab (ia tt tt tt) in omega (arith, ints)
tri_bool true false false cab cba cbc ccb cca cac ia ib ic ja jb jc = let h = bit_le cba cca (ja tt tt tt) in omega (arith, ints)
tri_bool true false true cab cba cbc ccb cca cac ia ib ic ja jb jc = let h = bit_le cba cbc (ib tt tt tt) in omega (arith, ints)
tri_bool true true false cab cba cbc ccb cca cac ia ib ic ja jb jc = let h = bit_le ccb cca (ic tt tt tt) in omega (arith, ints)
tri_bool true true true cab cba cbc ccb cca cac ia ib ic ja jb jc = omega (arith, ints)

yes_above : (z : ℤ) → T (above z) → pos 0 <ℤ z
yes_above z t = lt_z_yes t

no_above : (z : ℤ) → T (not (above z)) → z ≤ℤ pos 0
no_above z t = lt_z_no t

-- a number is above 0 if it cannot be at most 0
by_denial : (z : ℤ) → (z ≤ℤ pos 0 → ⊥) → T (above z)
by_denial z n = elim (pos_or z) [ inl p ↦ p.lt | inr p ↦ absurd (n p) ]

module _ (p A q B r C : ℤ) (mix : p *ℤ A +ℤ q *ℤ B +ℤ r *ℤ C ≡ pos 0) (whole : pos 0 <ℤ (A +ℤ B +ℤ C)) where
  -- p right, q and r left: where the way back from r to p is crossed, so is the way from p to q
  right_left : p ≤ℤ pos 0 → pos 0 <ℤ q → pos 0 <ℤ r → B <ℤ pos 0 → T (above C)
  right_left hp hq hr h_b = by_denial C (λ h_c. clash h_c (p *ℤ A) (q *ℤ B) (r *ℤ C) mix (mul-≤≥ p A hp (pos_a h_c)) (mul->< q B hq h_b) (mul-≥≤ r C (weaken (pos 0) r hr) h_c))
    where
      pos_a : C ≤ℤ pos 0 → pos 0 ≤ℤ A
      pos_a h = omega (arith, ints)

      clash : C ≤ℤ pos 0 → (s t u : ℤ) → s +ℤ t +ℤ u ≡ pos 0 → s ≤ℤ pos 0 → t <ℤ pos 0 → u ≤ℤ pos 0 → ⊥
      clash _ s t u e a b c = omega (arith, ints)

  left_right : pos 0 <ℤ p → q ≤ℤ pos 0 → r ≤ℤ pos 0 → C <ℤ pos 0 → T (above B)
  left_right hp hq hr h_c = by_denial B (λ h_b. clash (p *ℤ A) (q *ℤ B) (r *ℤ C) mix (mul->> p A hp (pos_a h_b)) (mul-≤≤ q B hq h_b) (mul-≤≤ r C hr (weaken C (pos 0) h_c)))
    where
      pos_a : B ≤ℤ pos 0 → pos 0 <ℤ A
      pos_a h = omega (arith, ints)

      clash : (s t u : ℤ) → s +ℤ t +ℤ u ≡ pos 0 → pos 0 <ℤ s → pos 0 ≤ℤ t → pos 0 ≤ℤ u → ⊥
      clash s t u e a b c = omega (arith, ints)

turned : (o a b : Pt) → T (above (S b a o)) → S a b o <ℤ pos 0
turned o a b t = neg-< (S a b o) (S b a o) (S-swap a b o) (yes_above (S b a o) t)

rot3 : (a b c : ℤ) → a +ℤ b +ℤ c ≡ b +ℤ c +ℤ a
rot3 a b c = omega (arith, ints)

-- no triangle that turns left is counted below 0
pub count_triangle : (o t a b c : Pt) → pos 0 <ℤ S a b c → pos 0 ≤ℤ (count o t a b +ℤ count o t b c +ℤ count o t c a)
unfolding count
count_triangle o t a b c h =
    tri_bool (above pa) (above pb) (above pc) (above C) (above (S b a o)) (above A) (above (S c b o)) (above B) (above (S a c o))
    (λ i j l s. right_left pa A pb B pc C mix whole (no_above pa i) (yes_above pb j) (yes_above pc l) (turned o c a s))
    (λ i j l s. right_left pb B pc C pa A mix2 whole2 (no_above pb i) (yes_above pc j) (yes_above pa l) (turned o a b s))
    (λ i j l s. right_left pc C pa A pb B mix3 whole3 (no_above pc i) (yes_above pa j) (yes_above pb l) (turned o b c s))
    (λ i j l s. left_right pa A pb B pc C mix whole (yes_above pa i) (no_above pb j) (no_above pc l) (turned o a b s))
    (λ i j l s. left_right pb B pc C pa A mix2 whole2 (yes_above pb i) (no_above pc j) (no_above pa l) (turned o b c s))
    (λ i j l s. left_right pc C pa A pb B mix3 whole3 (yes_above pc i) (no_above pa j) (no_above pb l) (turned o c a s))
  where
    pa : ℤ
    pa = S o t a

    pb : ℤ
    pb = S o t b

    pc : ℤ
    pc = S o t c

    A : ℤ
    A = S b c o

    B : ℤ
    B = S c a o

    C : ℤ
    C = S a b o

    mix : pa *ℤ A +ℤ pb *ℤ B +ℤ pc *ℤ C ≡ pos 0
    mix = mean o t a b c

    mix2 : pb *ℤ B +ℤ pc *ℤ C +ℤ pa *ℤ A ≡ pos 0
    mix2 = sym (rot3 (pa *ℤ A) (pb *ℤ B) (pc *ℤ C)) ∙ mix

    mix3 : pc *ℤ C +ℤ pa *ℤ A +ℤ pb *ℤ B ≡ pos 0
    mix3 = rot3 (pc *ℤ C) (pa *ℤ A) (pb *ℤ B) ∙ mix

    whole : pos 0 <ℤ (A +ℤ B +ℤ C)
    whole = subst (λ z. pos 0 <ℤ z) (S-split a b c o ∙ rot3 C A B) h

    whole2 : pos 0 <ℤ (B +ℤ C +ℤ A)
    whole2 = subst (λ z. pos 0 <ℤ z) (rot3 A B C) whole

    whole3 : pos 0 <ℤ (C +ℤ A +ℤ B)
    whole3 = subst (λ z. pos 0 <ℤ z) (rot3 B C A) whole2

-- ---- a triangle with the corner o
hit_none : (p q c : Bool) → c ≡ false → hit p q c ≡ pos 0
hit_none false true c e = ap bit e
hit_none false false c e = refl
hit_none true q c e = refl

above_yes : (z : ℤ) → pos 0 <ℤ z → above z ≡ true
above_yes z h = is_true (above z) h.lt

above_no : (z : ℤ) → z ≤ℤ pos 0 → above z ≡ false
above_no z h = is_false (above z) (λ t. clash_ℤ (lt_z_yes t) h)

zero_above : (z : ℤ) → z ≡ pos 0 → above z ≡ false
zero_above z e = ap above e

count_from : (o t p : Pt) → count o t o p ≡ pos 0
unfolding count
count_from o t p =
    ap₂ ◌-ℤ◌ (hit_none (above (S o t o)) (above (S o t p)) (above (S o p o)) (zero_above (S o p o) (S-first o p)))
    (hit_none (above (S o t p)) (above (S o t o)) (above (S p o o)) (zero_above (S p o o) (S-last p o)))

count_to : (o t p : Pt) → count o t p o ≡ pos 0
count_to o t p = count_swap o t o p ∙ ap neg_ℤ (count_from o t p)

-- a way from the right of the ray to its left counts 1, where o is left of it
pub count_one : (o t p q : Pt) → S o t p ≤ℤ pos 0 → pos 0 <ℤ S o t q → pos 0 <ℤ S p q o → count o t p q ≡ pos 1
unfolding count
count_one o t p q l r h =
    ap₂ ◌-ℤ◌ (hits (above (S o t p)) (above (S o t q)) (above (S p q o)) (above_no (S o t p) l) (above_yes (S o t q) r) (above_yes (S p q o) h))
    (misses (above (S o t q)) (above (S o t p)) (above (S q p o)) (above_yes (S o t q) r))
  where
    hits : (a b c : Bool) → a ≡ false → b ≡ true → c ≡ true → hit a b c ≡ pos 1
    hits a b c e f g = ap (λ z. hit z b c) e ∙ ap (λ z. hit false z c) f ∙ ap bit g

    misses : (a b c : Bool) → a ≡ true → hit a b c ≡ pos 0
    misses a b c e = ap (λ z. hit z b c) e

-- the direction of t lies in the sector from p, itself included, to q
pub count_sector : (o t p q : Pt) → pos 0 <ℤ S o p q → pos 0 ≤ℤ S o p t → pos 0 <ℤ S o t q → count o t o p +ℤ count o t p q +ℤ count o t q o ≡ pos 1
count_sector o t p q h l r =
    ap₂ ◌+ℤ◌ (ap₂ ◌+ℤ◌ (count_from o t p) (count_one o t p q (neg-≤ (S o t p) (S o p t) (S-back o t p) l) r (subst (λ z. pos 0 <ℤ z) (S-cyc o p q) h))) (count_to o t q)

-- ---- one way
hit_bit : (p q c : Bool) → (hit p q c ≡ pos 0) ⊎ (hit p q c ≡ pos 1)
hit_bit false true true = inr refl
hit_bit false true false = inl refl
hit_bit false false c = inl refl
hit_bit true q c = inl refl

hit_one : (p q c : Bool) → hit p q c ≡ pos 1 → T (not p) × T q
hit_one false true c e = (tt, tt)
hit_one false false c e = absurd (clash e)
  where
    clash : pos 0 ≡ pos 1 → ⊥
    clash e = omega (arith, ints)
hit_one true q c e = absurd (clash e)
  where
    clash : pos 0 ≡ pos 1 → ⊥
    clash e = omega (arith, ints)

pub crossing_bit : (o t a b : Pt) → (crossing o t a b ≡ pos 0) ⊎ (crossing o t a b ≡ pos 1)
crossing_bit o t a b = hit_bit (above (S o t a)) (above (S o t b)) (above (S a b o))

pub crossing_one : (o t a b : Pt) → crossing o t a b ≡ pos 1 → (S o t a ≤ℤ pos 0) × (pos 0 <ℤ S o t b)
crossing_one o t a b e =
    let h = hit_one (above (S o t a)) (above (S o t b)) (above (S a b o)) e in (no_above (S o t a) h.0, yes_above (S o t b) h.1)

-- a way counts at least as the way back does
pub count_least : (o t a b : Pt) → pos 0 ≤ℤ (count o t a b +ℤ crossing o t b a)
unfolding count
count_least o t a b = go (crossing o t a b) (crossing o t b a) (crossing_bit o t a b)
  where
    go : (p q : ℤ) → (p ≡ pos 0) ⊎ (p ≡ pos 1) → pos 0 ≤ℤ ((p -ℤ q) +ℤ q)
    go p q (inl e) = omega (arith, ints)
    go p q (inr e) = omega (arith, ints)

-- a way with o on its left, or on it, does not count below 0
pub count-≥ : (o t a b : Pt) → pos 0 ≤ℤ S a b o → pos 0 ≤ℤ count o t a b
unfolding count
count-≥ o t a b h =
    go (crossing o t a b) (crossing o t b a) (crossing_bit o t a b)
    (hit_none (above (S o t b)) (above (S o t a)) (above (S b a o)) (above_no (S b a o) (neg-≤ (S b a o) (S a b o) (S-swap b a o) h)))
  where
    go : (p q : ℤ) → (p ≡ pos 0) ⊎ (p ≡ pos 1) → q ≡ pos 0 → pos 0 ≤ℤ (p -ℤ q)
    go p q (inl e) f = omega (arith, ints)
    go p q (inr e) f = omega (arith, ints)
