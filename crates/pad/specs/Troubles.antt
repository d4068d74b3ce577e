-- What a bad line leaves as it was.
use Rattle.std.specs.Prelude.{Option, None, Result, Ok, Err}
use Rattle.pad.specs.declared.complaint.Trouble.{Trouble}
use Rattle.pad.specs.declared.complaint.Trouble.TheVariants.{Line, Outside}

-- P holds where the line itself is bad
abbrev pub OnBadLine : {T : Type 0} → Result T Trouble → Type 0 → Type 0
OnBadLine (Ok x) P = Unit {0}
OnBadLine (Err (Line complaint)) P = P
OnBadLine (Err (Outside error)) P = Unit {0}

-- what a line asks for: nothing more, if something is wrong with it
abbrev pub asked : {T : Type 0} → Result (Option T) Trouble → Option T
asked (Ok x) = x
asked (Err trouble) = None
