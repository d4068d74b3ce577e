-- What an answer about a side holds.
use Rattle.std.specs.Prelude.{◌≡◌, ℕ, Bool, cond, ◌&&◌, ◌||◌, ℤ, pos, ◌==◌, int_lt, unsigned_abs}
use Rattle.std.specs.Ordering.{on}
use Rattle.plane.specs.declared.line_side_info.LineSideInfo.{LineSideInfo}
use Rattle.plane.specs.Value.{Value, below_zero, equals_zero}

-- the float in it has the value z
abbrev pub Holds : LineSideInfo → ℤ → Type 0
Holds l z = Value l.signed_side z

-- both on the line, both left of it or both right of it
abbrev pub alike : ℤ → ℤ → Bool
alike y z = (unsigned_abs y == 0 && unsigned_abs z == 0) || (int_lt (pos 0) y && int_lt (pos 0) z) || (int_lt y (pos 0) && int_lt z (pos 0))

-- the machine's tests of the float in it, whatever that is
abbrev pub tests_on_line : LineSideInfo → Bool
tests_on_line l = equals_zero l.signed_side

abbrev pub tests_right : LineSideInfo → Bool
tests_right l = below_zero l.signed_side

-- 0 on the line, 1 right of it, 2 otherwise, by these tests
abbrev pub side_number : LineSideInfo → ℕ
side_number l = cond (tests_on_line l) 0 (cond (tests_right l) 1 2)

-- the answer of == on any two
abbrev pub same_side : LineSideInfo → LineSideInfo → Bool
same_side = on side_number ◌==◌

-- of two that hold whole numbers, that answer is whether these are alike
abbrev pub SameSide : Type 0
SameSide = (a b : LineSideInfo) (y z : ℤ) → Holds a y → Holds b z → same_side a b ≡ alike y z
