-- A shelf as a plain list with a count: what removal and renewal answer and leave.
use Rattle.std.specs.Prelude.{ℕ, ◌-◌, min, cond, List, length, Some, None, Ok, Err, Option, Result, ◌==◌, nat_lt, slice_index_or, slice_set}
use Rattle.entry.specs.declared.fault.NoRecord.{NoRecord}
use Rattle.shelf.specs.declared.Removed.{Removed}

-- the number that moves to k where m entries are counted: the last one, unless k is the last
abbrev pub moved_to : ℕ → ℕ → Option ℕ
moved_to m k = cond (k == m - 1) None (Some (m - 1))

-- the count falls by 1
abbrev pub count_after : ℕ → ℕ → ℕ → ℕ
count_after c m k = cond (nat_lt k m) (m - 1) c

module _ {E : Type 0} where
  -- a count above the shelf's length is read as that length
  abbrev pub counted : List E → ℕ → ℕ
  counted es c = min c (length es)

  -- the answer: the entry and the number moved, or the number asked for
  abbrev pub removal : List E → ℕ → ℕ → E → Result (Removed E) (NoRecord ℕ)
  removal es m k d = cond (nat_lt k m) (Ok (record { entry = slice_index_or es k d; moved = moved_to m k })) (Err (record { number = k }))

  -- the entry at k and the last counted one have changed places
  abbrev pub remaining : List E → ℕ → ℕ → E → List E
  remaining es m k d = cond (nat_lt k m) (slice_set (slice_set es k (slice_index_or es (m - 1) d)) (m - 1) (slice_index_or es k d)) es

-- done, or the number asked for
abbrev pub below : ℕ → ℕ → Result (Unit {0}) (NoRecord ℕ)
below k m = cond (nat_lt k m) (Ok tt) (Err (record { number = k }))
