-- The count beside a shelf.
use Rattle.std.specs.Prelude.{ℕ, Option, Some, None}

-- the count that was set, or else the number of entries
abbrev pub count_or : Option ℕ → ℕ → ℕ
count_or None entries = entries
count_or (Some count) entries = count
