-- Writes of a draft: whether a record lies in its table and in the slice, and the slice after the write.
use Rattle.std.specs.Prelude.{ℕ, ◌+◌, ◌*◌, Bool, true, false, ◌&&◌, List, [], ◌∷◌, length, Ok, Err, Result, nat_lt, slice_set}
use Rattle.entry.specs.declared.fault.NoRecord.{NoRecord}
use Rattle.links.specs.declared.shape.Shape.{Shape}
use Rattle.links.specs.Tables.{entry_at, half_at, face_at}

-- the record is in its table, and its last number in the slice
abbrev pub is_entry_in : List ℕ → Shape → ℕ → Bool
is_entry_in w s v = nat_lt v s.entries && nat_lt (entry_at s v + 2) (length w)

abbrev pub is_half_in : List ℕ → Shape → ℕ → Bool
is_half_in w s h = nat_lt h (2 * s.edges) && nat_lt (half_at s h + 3) (length w)

abbrev pub is_face_in : List ℕ → Shape → ℕ → Bool
is_face_in w s k = nat_lt k s.faces && nat_lt (face_at s k) (length w)

-- done, or the number asked for
abbrev pub asked : Bool → ℕ → Result (Unit {0}) (NoRecord ℕ)
asked true i = Ok tt
asked false i = Err (record { number = i })

-- what the slice holds after a write that was done, or refused
abbrev pub wrote : Result (Unit {0}) (NoRecord ℕ) → List ℕ → List ℕ → List ℕ
wrote (Ok u) after before = after
wrote (Err f) after before = before

abbrev pub with_out : List ℕ → ℕ → ℕ → List ℕ
with_out w v h = slice_set w (3 * v + 2) h

abbrev pub with_half : List ℕ → Shape → ℕ → ℕ → ℕ → ℕ → ℕ → List ℕ
with_half w s h next prev face origin = slice_set (slice_set (slice_set (slice_set w (half_at s h) next) (half_at s h + 1) prev) (half_at s h + 2) face) (half_at s h + 3) origin

abbrev pub with_face : List ℕ → Shape → ℕ → ℕ → List ℕ
with_face w s k h = slice_set w (face_at s k) h

-- the values one after another, from the number at on
abbrev pub with_values : List ℕ → ℕ → List ℕ → List ℕ
with_values w at [] = w
with_values w at (v ∷ vs) = with_values (slice_set w at v) (at + 1) vs
