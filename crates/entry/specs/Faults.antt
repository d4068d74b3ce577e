-- The numbers and the texts of causes, axes and faults.
use Rattle.std.specs.Prelude.{ℕ, List, ◌++◌, codes}
use Rattle.entry.specs.declared.fault.Axis.{Axis}
use Rattle.entry.specs.declared.fault.Axis.TheVariants.{X, Y}
use Rattle.entry.specs.declared.fault.Cause.{Cause}
use Rattle.entry.specs.declared.fault.Cause.TheVariants.{NotANumber, BelowZero, AboveMost, Fraction}
use Rattle.entry.specs.declared.fault.EntryFault.{EntryFault}

-- a cause's number in answers
abbrev pub cause_number : Cause → ℕ
cause_number NotANumber = 1
cause_number BelowZero = 2
cause_number AboveMost = 3
cause_number Fraction = 4

-- an axis's number in answers
abbrev pub axis_number : Axis → ℕ
axis_number X = 1
axis_number Y = 2

-- the bytes that `{}` writes of a cause
abbrev pub cause_text : Cause → List ℕ
cause_text NotANumber = codes "not a number"
cause_text BelowZero = codes "below 0"
cause_text AboveMost = codes "above 16383"
cause_text Fraction = codes "a fraction"

-- the bytes that `{}` writes of an axis
abbrev pub axis_text : Axis → List ℕ
axis_text X = codes "x"
axis_text Y = codes "y"

-- the bytes that `{}` writes of a fault: axis, space, cause
abbrev pub fault_text : EntryFault → List ℕ
fault_text e = axis_text e.axis ++ (codes " " ++ cause_text e.cause)
