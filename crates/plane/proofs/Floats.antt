-- A float with the value z, against zero.
use Rattle.std.proofs.Common.{◌≡◌, ℕ, zero, suc, ◌*◌, ◌^◌, ◌<◌, ◌≤◌, Bool, true, false, not, ◌||◌, eqb, ℤ, pos, negsuc, ◌*ℤ◌, neg_ℤ, nat_abs, sym, refl, ap, ◌∙◌, ap₂, mul-pos, mul-one, arith, to_z, of_z, to_z-of_z, SFits, w64}
use mathlib.Core.Path.{subst⁻¹}
use lib.IntN.{neg_ℤ-neg_ℤ}
use lib.Signed.{lt_z, le_z}
use lib.Ieee.{Float, nan, inf, fin, binary64, up, down, below, level, of_bits, lt, le, eq, neg, of_int, round}
use lib.Ieee.Fits.{down_pos}
use lib.Ieee.Exact.{HasValue}
use lib.Ieee.Back.{round_whole}
use borrow.Author.Differences.{ints}
use Rattle.std.proofs.lemmas.Bool.Decides.{nat_tests}
use Rattle.zring.proofs.Laws.{neg_mul}
use Rattle.plane.specs.Value.{signed, Value}

abbrev Zero : Float
Zero = fin false 0 (pos 0)

zero_is : of_bits binary64 0 ≡ Zero
unfolding of_bits
zero_is = refl

-- a size A and a number z: both are 0, or neither is and the signs agree
data Sized (A : ℕ) : Bool → ℤ → Type 0 where
  none : {s : Bool} → A ≡ 0 → Sized A s (pos 0)
  more : (n : ℕ) → 0 < A → Sized A false (pos (suc n))
  less : (n : ℕ) → 0 < A → Sized A true (negsuc n)

sized : (s : Bool) (A d : ℕ) (z : ℤ) → 0 < d → signed s A ≡ z *ℤ pos d → Sized A s z
sized false A d (pos zero) p e = none (omega (arith, ints))
sized false A d (pos (suc n)) p e = let q : 0 < suc n * d = mul-pos (omega arith) p in more n (omega (arith, ints))
sized false A d (negsuc n) p e = let q : 0 < suc n * d = mul-pos (omega arith) p in absurd (omega (arith, ints))
sized true A d (pos zero) p e = none (omega (arith, ints))
sized true A d (pos (suc n)) p e = let q : 0 < suc n * d = mul-pos (omega arith) p in absurd (omega (arith, ints))
sized true A d (negsuc n) p e = let q : 0 < suc n * d = mul-pos (omega arith) p in less n (omega (arith, ints))

-- ---- the tests
-- 0 below y, y below 0, y equal to 0 and 0 equal to y
record Tests (y : Float) (z : ℤ) (zero_float : Float) : Type 0 where
  above : lt zero_float y ≡ lt_z (pos 0) z
  under : lt y zero_float ≡ lt_z z (pos 0)
  on : eq y zero_float ≡ eqb (nat_abs z) 0
  no : eq zero_float y ≡ eqb (nat_abs z) 0

against : (y : Float) (z : ℤ) → Value y z → Tests y z Zero
unfolding lt eq
against nan z h = absurd h
against (inf s) z h = absurd h
against (fin s m e) z h =
    let t = go s (m * up e) (down e) z (sized s (m * up e) (down e) z (down_pos e) h) in
    record { above = t.0; under = t.1; on = t.2; no = t.3 }
  where
    go : (s : Bool) (A d : ℕ) (z : ℤ) → Sized A s z
        → (below false (0 * d) s (A * 1) ≡ lt_z (pos 0) z) × (below s (A * 1) false (0 * d) ≡ lt_z z (pos 0))
        × (level s (A * 1) false (0 * d) ≡ eqb (nat_abs z) 0) × (level false (0 * d) s (A * 1) ≡ eqb (nat_abs z) 0)
    go false A d z (none h) = (grind (arith, nat_tests), grind (arith, nat_tests), grind (arith, nat_tests), grind (arith, nat_tests))
    go true A d z (none h) = (refl, grind (arith, nat_tests), grind (arith, nat_tests), grind (arith, nat_tests))
    go s A d z (more n p) = (grind (arith, nat_tests), grind (arith, nat_tests), grind (arith, nat_tests), grind (arith, nat_tests))
    go s A d z (less n p) = (refl, grind (arith, nat_tests), grind (arith, nat_tests), grind (arith, nat_tests))

or_above : (z : ℤ) → (lt_z (pos 0) z || eqb (nat_abs z) 0) ≡ le_z (pos 0) z
or_above (pos zero) = refl
or_above (pos (suc n)) = grind (arith, nat_tests)
or_above (negsuc n) = grind (arith, nat_tests)

or_under : (z : ℤ) → (lt_z z (pos 0) || eqb (nat_abs z) 0) ≡ le_z z (pos 0)
or_under (pos zero) = refl
or_under (pos (suc n)) = grind (arith, nat_tests)
or_under (negsuc n) = refl

-- ---- as the code has them
coded : (y : Float) (z : ℤ) → Value y z → Tests y z (of_bits binary64 0)
coded y z h = subst⁻¹ (Tests y z) zero_is (against y z h)

pub is_positive : (y : Float) (z : ℤ) → Value y z → lt (of_bits binary64 0) y ≡ lt_z (pos 0) z
is_positive y z h = (coded y z h).above

pub is_negative : (y : Float) (z : ℤ) → Value y z → lt y (of_bits binary64 0) ≡ lt_z z (pos 0)
is_negative y z h = (coded y z h).under

pub is_at_least : (y : Float) (z : ℤ) → Value y z → le (of_bits binary64 0) y ≡ le_z (pos 0) z
unfolding le
is_at_least y z h = let t = coded y z h in ap₂ ◌||◌ t.above t.no ∙ or_above z

pub is_at_most : (y : Float) (z : ℤ) → Value y z → le y (of_bits binary64 0) ≡ le_z z (pos 0)
unfolding le
is_at_most y z h = let t = coded y z h in ap₂ ◌||◌ t.under t.on ∙ or_under z

pub is_zero : (y : Float) (z : ℤ) → Value y z → eq y (of_bits binary64 0) ≡ eqb (nat_abs z) 0
is_zero y z h = (coded y z h).on

-- ---- the values themselves
signed_not : (s : Bool) (A : ℕ) → signed (not s) A ≡ neg_ℤ (signed s A)
signed_not false A = refl
signed_not true A = sym (neg_ℤ-neg_ℤ (pos A))

pub is_opposite : (y : Float) (z : ℤ) → Value y z → Value (neg y) (neg_ℤ z)
unfolding neg
is_opposite nan z h = absurd h
is_opposite (inf s) z h = absurd h
is_opposite (fin s m e) z h = signed_not s (m * up e) ∙ ap neg_ℤ h ∙ sym (neg_mul z (pos (down e)))

signed_mul : (s : Bool) (n d : ℕ) → signed s (n * d) ≡ signed s n *ℤ pos d
signed_mul false n d = refl
signed_mul true n d = sym (neg_mul (pos n) (pos d))

of_size : (y : Float) (s : Bool) (n : ℕ) → HasValue y s n 1 → Value y (signed s n)
of_size nan s n h = absurd h
of_size (inf t) s n h = absurd h
of_size (fin t m e) s n h =
    let w : m * up e ≡ n * down e = sym (mul-one (m * up e)) ∙ h.1 in
    ap (λ b. signed b (m * up e)) h.0 ∙ ap (signed s) w ∙ signed_mul s n (down e)

-- up to 2 ^ 53 a whole number is a float
pub exact : (z : ℤ) → nat_abs z ≤ 2 ^ 53 → Value (of_int binary64 z) z
unfolding of_int
exact (pos n) h = of_size (round binary64 false n 1) false n (round_whole binary64 false n h)
exact (negsuc n) h = of_size (round binary64 true (suc n) 1) true (suc n) (round_whole binary64 true (suc n) h)

-- the same, of the number as the code has it
pub is_exact : (z : ℤ) → nat_abs z ≤ 2 ^ 53 → Value (of_int binary64 (to_z w64 (of_z w64 z))) z
is_exact z h = let f : SFits w64 z = omega (arith, ints) in subst⁻¹ (λ y. Value (of_int binary64 y) z) (to_z-of_z f) (exact z h)
