-- Worked values, by computation.
use Rattle.std.proofs.Common.{refl}
use Rattle.plane.specs.Plane.{S, C}
use Rattle.plane.specs.Worked.{WorkedValues}

pub worked : WorkedValues
unfolding S C
worked = (refl, refl, refl, refl)
