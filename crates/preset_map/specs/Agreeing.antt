-- Whether a shelf is that of a map: its count, and the place of each entry.
use Rattle.std.specs.Prelude.{ℕ, Bool, false, cond, ◌&&◌, List, ◌++◌, Some, None, Ok, Err, Option, Result, codes, decimal, ◌==◌}
use Rattle.entry.specs.declared.fault.EntryFault.{EntryFault}
use Rattle.links.specs.Links.{Links}
use Rattle.links.specs.Verdict.{failing}
use Rattle.preset_map.specs.declared.agreeing.Differs.{Differs}
use Rattle.preset_map.specs.declared.agreeing.Differs.TheVariants.{Count, Place}

-- the entry has a place, and it is (x, y)
abbrev pub is_same_spot : Result (ℕ × ℕ) EntryFault → ℕ → ℕ → Bool
is_same_spot (Ok p) x y = p.0 == x && p.1 == y
is_same_spot (Err f) x y = false

-- the lowest entry whose place differs or is missing
abbrev pub lowest : Option ℕ → Result (Unit {0}) Differs
lowest None = Ok tt
lowest (Some v) = Err (Place v)

-- the count is told where it differs, else the lowest entry whose place does
abbrev pub agreement : Links → (ℕ → Result (ℕ × ℕ) EntryFault) → ℕ → Result (Unit {0}) Differs
agreement m spot count = cond (count == m.n) (lowest (failing m.n (λ v. is_same_spot (spot v) (m.x v) (m.y v)))) (Err (Count count))

-- how a shelf that is not that of a map is told: by the fault's number, and the count or the entry
abbrev pub differs_text : Differs → List ℕ
differs_text (Count count) = codes "fault 10 count " ++ decimal count
differs_text (Place v) = codes "fault 10 entry " ++ decimal v
