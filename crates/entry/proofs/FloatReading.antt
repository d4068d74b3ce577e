-- What the tests of a float say of its reading.
use Rattle.std.specs.Prelude.{◌≡◌, ℕ, zero, suc, ◌+◌, ◌*◌, ◌/◌, ◌%◌, ◌<◌, ◌≤◌, Bool, true, false, cond, ◌&&◌, ◌||◌, ltb, ℤ, pos, Ok, Err, Result, ◌==◌, nat_eq, nat_lt, refl, Float}
use Rattle.std.proofs.Common.{sym, ap, ◌∙◌, subst, inl, inr, mul-pos, mul-one, mul_comm, mul_right_comm, arith, ltb-true, ltb-false, lt-ltb, le-ltb, eq-eqb, ne_eqb}
use Rattle.std.proofs.Math.Nat.{div-add-mod, zero-div, div-le_of_le-mul, eq_of_mul-eq-mul_right}
use Rattle.std.specs.Float.{nan, inf, fin, binary64}
use Rattle.std.specs.Float.Ieee.{up, down, of_bits, lt, eq, is_nan, of_int, round, to_unsigned}
use Rattle.std.specs.Float.Ieee.Fits.{down_pos, up_pos}
use Rattle.std.specs.Float.Ieee.Exact.{HasValue}
use Rattle.std.specs.Float.Ieee.Back.{round_whole}
use Rattle.std.proofs.Math.Bool.{and-true}
use Rattle.std.proofs.lemmas.Bool.Decides.{nat_tests, eqb_tells}
use Rattle.entry.specs.declared.fault.Cause.{Cause}
use Rattle.entry.specs.declared.fault.Cause.TheVariants.{NotANumber, BelowZero, AboveMost, Fraction}
use Rattle.entry.specs.Within.{fin_ok}
use Rattle.entry.specs.Reading.{float_reading}

abbrev Zero : Float
Zero = fin false 0 (pos 0)

abbrev Most : Float
Most = fin false 16383 (pos 0)

zero_is : of_bits binary64 0 ≡ Zero
unfolding of_bits
zero_is = refl

most_is : of_bits binary64 4670232263827390464 ≡ Most
unfolding of_bits
most_is = refl

nan_read : (x : Float) → is_nan x ≡ true → Err NotANumber ≡ float_reading x
unfolding is_nan
nan_read nan h = refl
nan_read (inf s) h = cc
nan_read (fin s m e) h = cc

positive : (m u d : ℕ) → 0 < m * u * 1 + 0 * d → 0 < m
positive zero u d h = omega arith
positive (suc m) u d h = omega arith

below_zero : (x : Float) → lt x Zero ≡ true → Err BelowZero ≡ float_reading x
unfolding lt
below_zero nan h = cc
below_zero (inf true) h = refl
below_zero (inf false) h = cc
below_zero (fin true m e) h =
    let p : 0 < m = positive m (up e) (down e) (ltb-true _ _ h) in
    let t : ltb 0 m ≡ true = grind (arith) in
    simp t
below_zero (fin false m e) h = let p : m * up e * 1 < 0 * down e = ltb-true _ _ h in absurd (omega arith)

-- ---- not below 0, and not above the most

flat : (m u d : ℕ) → 0 < u → m * u * 1 + 0 * d ≤ 0 → m ≡ 0
flat zero u d p h = refl
flat (suc m) u d p h = let q : 0 < suc m * u = mul-pos (omega arith) p in absurd (omega arith)

not_below : (s : Bool) (m : ℕ) (e : ℤ) → lt (fin s m e) Zero ≡ false → (s && nat_lt 0 m) ≡ false
unfolding lt
not_below false m e h = refl
not_below true m e h = let z : m ≡ 0 = flat m (up e) (down e) (up_pos e) (ltb-false _ _ h) in le-ltb 0 m (omega arith)

above_most : (x : Float) → lt x Zero ≡ false → lt Most x ≡ true → Err AboveMost ≡ float_reading x
unfolding lt
above_most nan h k = cc
above_most (inf true) h k = cc
above_most (inf false) h k = refl
above_most (fin true m e) h k = cc
above_most (fin false m e) h k = let t : ltb (16383 * down e) (m * up e) ≡ true = lt-ltb _ _ (omega (arith, ltb-true _ _ k)) in simp t

none : (s : Bool) (m : ℕ) → (s && nat_lt 0 m) ≡ false → s ≡ true → m ≡ 0
none true m h e = let p : m ≤ 0 = ltb-false 0 m h in omega arith
none false m h e = cc

not_above : (s : Bool) (m : ℕ) (e : ℤ) → (s && nat_lt 0 m) ≡ false → lt Most (fin s m e) ≡ false → m * up e ≤ 16383 * down e
unfolding lt
not_above true m e z h = let o : m ≡ 0 = none true m z refl in simp o (omega arith)
not_above false m e z h = omega (arith, ltb-false _ _ h)

-- ---- the whole part, put back

eqb_scale : (x y d : ℕ) → 0 < d → (x * d == y * d) ≡ (x == y)
eqb_scale x y d p =
    elim (eqb_tells x y) [
      | inl t ↦ eq-eqb (x * d) (y * d) (ap (λ z. z * d) t.1) ∙ sym t.0
      | inr f ↦ ne_eqb (x * d) (y * d) (λ q. f.1 (eq_of_mul-eq-mul_right d p x y q)) ∙ sym f.0
    ]

-- k * u is n * w, so k * u * d against b * w is n * d against b
crossed : (k u n w d b : ℕ) → 0 < w → k * u * 1 ≡ n * w → (k * u * d == b * w) ≡ (n * d == b)
crossed k u n w d b p h =
    let e : k * u * d ≡ n * d * w = ap (λ z. z * d) (sym (mul-one (k * u)) ∙ h) ∙ mul_right_comm n w d in
    ap (λ z. nat_eq z (b * w)) e ∙ eqb_scale (n * d) b w p

with_none : (a b : ℕ) → b ≡ 0 → (a == b && (false || a == 0)) ≡ (a == b)
with_none a b h = subst (λ z. (a == z && a == 0) ≡ (a == z)) (sym h) (same (a == 0))
  where
    same : (t : Bool) → (t && t) ≡ t
    same true = refl
    same false = refl

level_whole : (y : Float) (s : Bool) (m n : ℕ) (e : ℤ) → HasValue y false n 1 → (s && nat_lt 0 m) ≡ false → eq y (fin s m e) ≡ (n * down e == m * up e)
unfolding eq
level_whole nan s m n e v z = absurd v
level_whole (inf t) s m n e v z = absurd v
level_whole (fin true k j) s m n e v z = cc
level_whole (fin false k j) false m n e v z = and-true _ ∙ crossed k (up j) n (down j) (down e) (m * up e) (down_pos j) v.1
level_whole (fin false k j) true m n e v z =
    let o : m ≡ 0 = none true m z refl in
    let b : m * up e * down j ≡ 0 = simp o (omega arith) in
    with_none (k * up j * down e) (m * up e * down j) b ∙ crossed k (up j) n (down j) (down e) (m * up e) (down_pos j) v.1

-- a size a / d of at most 16383, by its whole part n
back : (a d n : ℕ) → 0 < d → n ≡ a / d → (n * d == a) ≡ (a % d == 0)
back a d n p h =
    let whole : d * (a / d) + a % d ≡ a = div-add-mod a d in
    let turn : n * d ≡ d * (a / d) = ap (λ z. z * d) h ∙ mul_comm (a / d) d in
    grind (arith, nat_tests)

pub whole_part : (s : Bool) (m n : ℕ) (e : ℤ) → (s && nat_lt 0 m) ≡ false → m * up e ≤ 16383 * down e → n ≡ to_unsigned 16 (fin s m e) → n ≡ m * up e / down e
unfolding to_unsigned
whole_part true m n e z h t =
    let o : m ≡ 0 = none true m z refl in
    let p : m * up e ≡ 0 = simp o (omega arith) in
    t ∙ sym (ap (λ a. a / down e) p ∙ zero-div (down e))
whole_part false m n e z h t =
    let small : m * up e / down e ≤ 16383 = div-le_of_le-mul (down e) (omega (arith, mul_comm 16383 (down e))) in
    omega arith

-- what is left where neither end is passed: whether the whole part is the float
put_back : (s : Bool) (m n : ℕ) (e : ℤ) → (s && nat_lt 0 m) ≡ false → m * up e ≤ 16383 * down e → n ≡ m * up e / down e → eq (of_int binary64 (pos n)) (fin s m e) ≡ (m * up e % down e == 0)
unfolding of_int
put_back s m n e z h t =
    let small : m * up e / down e ≤ 16383 = div-le_of_le-mul (down e) (omega (arith, mul_comm 16383 (down e))) in
    level_whole (round binary64 false n 1) s m n e (round_whole binary64 false n (omega arith)) z ∙ back (m * up e) (down e) n (down_pos e) t

-- the reading where neither end is passed, by the last test
left : (s : Bool) (m n : ℕ) (e : ℤ) → (s && nat_lt 0 m) ≡ false → m * up e ≤ 16383 * down e → n ≡ m * up e / down e
    → float_reading (fin s m e) ≡ cond (eq (of_int binary64 (pos n)) (fin s m e)) (Ok n) (Err Fraction)
left s m n e z h t =
    let a : ltb (16383 * down e) (m * up e) ≡ false = le-ltb _ _ h in
    let b = put_back s m n e z h t in
    simp (z, a, b) (simp t)

tested : (x : Float) (n : ℕ) → is_nan x ≡ false → lt x Zero ≡ false → lt Most x ≡ false → n ≡ to_unsigned 16 x
    → float_reading x ≡ cond (eq (of_int binary64 (pos n)) x) (Ok n) (Err Fraction)
unfolding lt is_nan
tested nan n a b c t = cc
tested (inf true) n a b c t = cc
tested (inf false) n a b c t = cc
tested (fin s m e) n a b c t =
    let z = not_below s m e b in
    let h = not_above s m e z c in
    left s m n e z h (whole_part s m n e z h t)

-- ---- the reading by the code's tests, in their order

abbrev tests : Float → Float → Float → Result ℕ Cause
tests low high x =
    cond (is_nan x) (Err NotANumber) (cond (lt x low) (Err BelowZero) (cond (lt high x) (Err AboveMost)
    (cond (eq (of_int binary64 (pos (to_unsigned 16 x))) x) (Ok (to_unsigned 16 x)) (Err Fraction))))

between : (x : Float) → float_reading x ≡ tests Zero Most x
between x = go (is_nan x) refl (lt x Zero) refl (lt Most x) refl
  where
    go : (a : Bool) → is_nan x ≡ a → (b : Bool) → lt x Zero ≡ b → (d : Bool) → lt Most x ≡ d
        → float_reading x ≡ cond a (Err NotANumber) (cond b (Err BelowZero) (cond d (Err AboveMost)
        (cond (eq (of_int binary64 (pos (to_unsigned 16 x))) x) (Ok (to_unsigned 16 x)) (Err Fraction))))
    go true p b q d r = sym (nan_read x p)
    go false p true q d r = sym (below_zero x q)
    go false p false q true r = sym (above_most x q r)
    go false p false q false r = tested x (to_unsigned 16 x) p q r refl

pub by_tests : (x : Float) → float_reading x ≡ tests (of_bits binary64 0) (of_bits binary64 4670232263827390464) x
by_tests x = subst (λ z. float_reading x ≡ tests z (of_bits binary64 4670232263827390464) x) (sym zero_is) (subst (λ z. float_reading x ≡ tests Zero z x) (sym most_is) (between x))

-- a float that reads as n is cut to n
pub cut_read : (x : Float) (n : ℕ) → float_reading x ≡ Ok n → to_unsigned 16 x ≡ n
cut_read nan n h = cc
cut_read (inf true) n h = cc
cut_read (inf false) n h = cc
cut_read (fin s m e) n h = let q = fin_ok s m n e h in whole_part s m _ e q.0 q.1 refl ∙ q.2
