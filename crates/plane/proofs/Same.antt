-- The answer of == on two sides, by the whole numbers that they hold.
use Rattle.std.proofs.Common.{◌≡◌, ℕ, zero, suc, Bool, true, false, cond, ◌&&◌, ◌||◌, ◌==◌, ℤ, pos, negsuc, refl, ap₂, ◌∙◌, arith, lt-ltb, le-ltb, ne_eqb}
use Rattle.std.specs.Prelude.{int_lt, unsigned_abs}
use Rattle.plane.specs.declared.line_side_info.LineSideInfo.{LineSideInfo}
use Rattle.plane.specs.Holds.{Holds, side_number, SameSide}
use Rattle.plane.proofs.Floats.{is_zero, is_negative}

-- of 0, above 0 and below 0 just one is true
data One : Bool → Bool → Bool → Type 0 where
  zero_one : One true false false
  above_one : One false true false
  below_one : One false false true

one : (z : ℤ) → One (unsigned_abs z == 0) (int_lt (pos 0) z) (int_lt z (pos 0))
one (pos zero) = zero_one
one (pos (suc n)) = rw (ne_eqb (suc n) 0 (λ h. omega arith), lt-ltb 0 (suc n) (omega arith), le-ltb (suc n) 0 (omega arith)) above_one
one (negsuc n) = rw (ne_eqb (suc n) 0 (λ h. omega arith)) below_one

-- the number of a side, by its three tests
number_by : Bool → Bool → ℕ
number_by o r = cond o 0 (cond r 1 2)

alike_by : {o l r p m q : Bool} → One o l r → One p m q → (number_by o r == number_by p q) ≡ ((o && p) || (l && m) || (r && q))
unfolding number_by
alike_by zero_one zero_one = refl
alike_by zero_one above_one = refl
alike_by zero_one below_one = refl
alike_by above_one zero_one = refl
alike_by above_one above_one = refl
alike_by above_one below_one = refl
alike_by below_one zero_one = refl
alike_by below_one above_one = refl
alike_by below_one below_one = refl

number_is : (l : LineSideInfo) (z : ℤ) → Holds l z → side_number l ≡ number_by (unsigned_abs z == 0) (int_lt z (pos 0))
unfolding number_by
number_is l z h = ap₂ number_by (is_zero l.signed_side z h) (is_negative l.signed_side z h)

pub same_side_is : SameSide
same_side_is a b y z h k = ap₂ ◌==◌ (number_is a y h) (number_is b z k) ∙ alike_by (one y) (one z)
