-- Floats as whole numbers.
use Rattle.std.specs.Prelude.{◌≡◌, ℕ, ◌*◌, Bool, true, false, ℤ, pos, ◌*ℤ◌, neg_ℤ, Float}
use Rattle.std.specs.Float.{nan, inf, fin}
use Rattle.std.specs.Float.Ieee.{binary64, of_bits, up, down, lt, eq}

-- n, or -n where the sign is set
abbrev pub signed : Bool → ℕ → ℤ
signed false n = pos n
signed true n = neg_ℤ (pos n)

-- the float's value is z: ± m * 2 ^ e, with 2 ^ e as the fraction up e / down e; both zeros have the value 0
abbrev pub Value : Float → ℤ → Type 0
Value nan z = ⊥
Value (inf s) z = ⊥
Value (fin s m e) z = signed s (m * up e) ≡ z *ℤ pos (down e)

-- x < 0.0 and x == 0.0, as the machine compares
abbrev pub below_zero : Float → Bool
below_zero x = lt x (of_bits binary64 0)

abbrev pub equals_zero : Float → Bool
equals_zero x = eq x (of_bits binary64 0)
