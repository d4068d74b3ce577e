-- Where a walk starts.
use Rattle.std.specs.Prelude.{ℕ, cond, Ok, Err, Result, ◌==◌, nat_lt}
use Rattle.entry.specs.declared.fault.NoRecord.{NoRecord}
use Rattle.links.specs.Links.{none}
use Rattle.walk.specs.declared.reader.Walk.{Walk}
use Rattle.walk.specs.Walking.{done, fresh}

-- at a link: around its cycle, or empty where it is none
abbrev pub start_at : ℕ → Walk
start_at h = cond (h == none) done (fresh h)

-- from entry v of n, whose out_edge is h
abbrev pub walk_at : ℕ → ℕ → ℕ → Result Walk (NoRecord ℕ)
walk_at v n h = cond (nat_lt v n) (Ok (start_at h)) (Err (record { number = v }))
