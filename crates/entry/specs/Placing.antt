-- The spot of the grid that an entry means, or the fault that it has none by.
use Rattle.std.specs.Prelude.{ℕ, Ok, Err, Result}
use Rattle.plane.specs.declared.place.Place.{Place}
use Rattle.entry.specs.declared.fault.Axis.{Axis}
use Rattle.entry.specs.declared.fault.Axis.TheVariants.{X, Y}
use Rattle.entry.specs.declared.fault.Cause.{Cause}
use Rattle.entry.specs.declared.fault.EntryFault.{EntryFault}

-- a scalar's reading, with the axis that it is read on
abbrev pub on_axis : Axis → Result ℕ Cause → Result ℕ EntryFault
on_axis a (Ok n) = Ok n
on_axis a (Err c) = Err (record { axis = a; cause = c })

-- both numbers, or the first fault: x is read before y
abbrev pub both : Result ℕ EntryFault → Result ℕ EntryFault → Result (ℕ × ℕ) EntryFault
both (Err f) y = Err f
both (Ok a) (Err f) = Err f
both (Ok a) (Ok b) = Ok (a, b)

-- the spot of an entry with the scalars x and y, by how a scalar reads
abbrev pub spot_of : {S : Type 0} → (S → Result ℕ Cause) → S → S → Result (ℕ × ℕ) EntryFault
spot_of reading x y = both (on_axis X (reading x)) (on_axis Y (reading y))

-- the spot that an answer names
abbrev pub spotted : Result Place EntryFault → Result (ℕ × ℕ) EntryFault
spotted (Ok p) = Ok (p.x, p.y)
spotted (Err f) = Err f
