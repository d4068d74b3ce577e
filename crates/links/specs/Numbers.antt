-- A fault of check in numbers, with what it carries.
use Rattle.std.specs.Prelude.{ℕ}
use Rattle.entry.specs.Faults.{axis_number, cause_number}
use Rattle.links.specs.declared.fault.CheckFault.{CheckFault}
use Rattle.links.specs.declared.fault.FaultNumbers.{FaultNumbers}
use Rattle.links.specs.declared.fault.Site.{Site}
use Rattle.links.specs.declared.fault.Site.TheVariants.{Whole, Entry, Half, Edge, Face, Unplaced, Edges, EdgeEntry, HalfEntry, FaceEntry}

-- rule, clause, the first record's kind and number, the second's, and axis and cause of an entry without a place
abbrev row : ℕ → ℕ → ℕ → ℕ → ℕ → ℕ → ℕ → ℕ → FaultNumbers
row r c k i l j a b = record { rule = r; clause = c; kind = k; index = i; other_kind = l; other_index = j; axis = a; cause = b }

-- none is 0, an entry 1, a half 2, an edge 3, a face 4
abbrev pub sited : ℕ → ℕ → Site → FaultNumbers
sited r c Whole = row r c 0 0 0 0 0 0
sited r c (Entry v) = row r c 1 v 0 0 0 0
sited r c (Half h) = row r c 2 h 0 0 0 0
sited r c (Edge k) = row r c 3 k 0 0 0 0
sited r c (Face k) = row r c 4 k 0 0 0 0
sited r c (Unplaced v f) = row r c 1 v 0 0 (axis_number f.axis) (cause_number f.cause)
sited r c (Edges k l) = row r c 3 k 3 l 0 0
sited r c (EdgeEntry k v) = row r c 3 k 1 v 0 0
sited r c (HalfEntry h v) = row r c 2 h 1 v 0 0
sited r c (FaceEntry k v) = row r c 4 k 1 v 0 0

abbrev pub numbers_of : CheckFault → FaultNumbers
numbers_of f = sited f.rule f.clause f.site
