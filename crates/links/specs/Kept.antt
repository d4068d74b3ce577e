-- What a map keeps: its links and places are sound, and there is room for them.
use Rattle.std.specs.Prelude.{◌≡◌, ℕ, zero, suc, ◌+◌, ◌*◌, ◌≤◌, Bool, true, false, List, length, Ok, Err, Result, ◌==◌, slice_set}
use Rattle.entry.specs.declared.fault.EntryFault.{EntryFault}
use Rattle.links.specs.declared.fault.CheckFault.{CheckFault}
use Rattle.links.specs.declared.shape.Shape.{Shape}
use Rattle.links.specs.Links.{Links, none}
use Rattle.links.specs.Rules.{Sound}
use Rattle.links.specs.Tables.{held, size}
use Rattle.links.specs.Verdict.{x_coordinate, y_coordinate}

-- the links of a map without entries: they lead nowhere
abbrev pub vacant : Shape → Links
vacant s = record {
  n = s.n;
  e = s.e;
  f = s.f;
  x = λ _. 0;
  y = λ _. 0;
  out = λ _. none;
  adj = λ _. none;
  next = λ _. none;
  prev = λ _. none;
  face = λ _. none;
  origin = λ _. none;
}

-- the links of a map: those of its tables, unless it is empty
abbrev pub mapped_by : Bool → List ℕ → Shape → Links
mapped_by true w s = vacant s
mapped_by false w s = held w s

abbrev pub map_links : List ℕ → Shape → Links
map_links w s = mapped_by (s.n == 0) w s

-- the slice holds the tables, and these hold n entry, e + n edge and f + n face records
pub record Room (w : List ℕ) (s : Shape) : Type 0 where
  pub holds : size s ≤ length w
  pub entries : s.n ≤ s.entries
  pub edges : s.e + s.n ≤ s.edges
  pub faces : s.f + s.n ≤ s.faces

-- the rules, as a map obeys them; an empty map needs no room
pub record Kept (w : List ℕ) (s : Shape) : Type 0 where
  pub sound : Sound (map_links w s)
  pub room : ¬ (s.n ≡ 0) → Room w s

-- ---- settling
-- the slice with the places of the first n entries written into their records
abbrev pub copied : List ℕ → (ℕ → Result (ℕ × ℕ) EntryFault) → ℕ → List ℕ
copied w spot zero = w
copied w spot (suc v) = slice_set (slice_set (copied w spot v) (3 * v) (x_coordinate (spot v))) (3 * v + 1) (y_coordinate (spot v))

-- the same tables with no record in use but the outer face
abbrev pub emptied : Shape → Shape
emptied s = record { n = 0; e = 0; f = 1; entries = s.entries; edges = s.edges; faces = s.faces }

-- the slice and the shape after settle, by what check answers
abbrev pub words_after_check : Result (Unit {0}) CheckFault → List ℕ → (ℕ → Result (ℕ × ℕ) EntryFault) → ℕ → List ℕ
words_after_check (Ok u) w spot n = copied w spot n
words_after_check (Err f) w spot n = w

abbrev pub shape_after_check : Result (Unit {0}) CheckFault → Shape → Shape
shape_after_check (Ok u) s = s
shape_after_check (Err f) s = emptied s
