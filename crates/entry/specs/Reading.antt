-- The number of the grid that a scalar reads as, or why it has none.
use Rattle.std.specs.Prelude.{ℕ, ◌*◌, ◌/◌, ◌%◌, true, false, cond, ◌&&◌, Ok, Err, Result, ◌==◌, nat_lt, Float}
use Rattle.std.specs.Float.{nan, inf, fin}
use Rattle.std.specs.Float.Ieee.{up, down}
use Rattle.entry.specs.declared.fault.Cause.{Cause}
use Rattle.entry.specs.declared.fault.Cause.TheVariants.{NotANumber, BelowZero, AboveMost, Fraction}

-- the size a / d, which is not negative, as a whole number up to 16383
abbrev pub sized : ℕ → ℕ → Result ℕ Cause
sized a d = cond (nat_lt (16383 * d) a) (Err AboveMost) (cond (a % d == 0) (Ok (a / d)) (Err Fraction))

-- a float reads as the whole number that it equals; minus zero is 0
abbrev pub float_reading : Float → Result ℕ Cause
float_reading nan = Err NotANumber
float_reading (inf true) = Err BelowZero
float_reading (inf false) = Err AboveMost
float_reading (fin s m e) = cond (s && nat_lt 0 m) (Err BelowZero) (sized (m * up e) (down e))

-- a u16 reads as itself
abbrev pub read_small : ℕ → Result ℕ Cause
read_small n = cond (nat_lt 16383 n) (Err AboveMost) (Ok n)
