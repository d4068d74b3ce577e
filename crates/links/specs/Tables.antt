-- The reading of a slice of numbers as links: three numbers an entry (x, y, out_edge), eight an edge (next, prev, face, origin
-- of its normalized half and then of the other), one a face, in this order. What lies past its table reads none.
use Rattle.std.specs.Prelude.{ℕ, ◌+◌, ◌*◌, Bool, true, false, cond, ◌&&◌, List, length, Some, None, Option, nat_lt, slice_index}
use Rattle.links.specs.Links.{Links, none}
use Rattle.links.specs.declared.shape.Shape.{Shape}

-- where a record begins
abbrev pub entry_at : Shape → ℕ → ℕ
entry_at s v = 3 * v

abbrev pub half_at : Shape → ℕ → ℕ
half_at s h = 3 * s.entries + 4 * h

abbrev pub face_at : Shape → ℕ → ℕ
face_at s k = 3 * s.entries + 8 * s.edges + k

-- how many numbers the tables take
abbrev pub size : Shape → ℕ
size s = 3 * s.entries + 8 * s.edges + s.faces

abbrev pub cell : Bool → List ℕ → ℕ → ℕ
cell true w i = slice_index w i
cell false w i = none

-- the number at i, if it belongs to its table and lies in the slice
abbrev pub looked : List ℕ → Bool → ℕ → ℕ
looked w b i = cond (b && nat_lt i (length w)) (slice_index w i) none

-- the number at a place, if there is one and it lies in the slice
abbrev pub looked_at : List ℕ → Option ℕ → ℕ
looked_at w None = none
looked_at w (Some i) = looked w true i

module _ (w : List ℕ) (s : Shape) where
  abbrev pub of_entry : ℕ → ℕ → ℕ
  of_entry field v = cell (nat_lt v s.entries) w (entry_at s v + field)

  abbrev pub of_half : ℕ → ℕ → ℕ
  of_half field h = cell (nat_lt h (2 * s.edges)) w (half_at s h + field)

  abbrev pub of_face : ℕ → ℕ
  of_face k = cell (nat_lt k s.faces) w (face_at s k)

  -- the links of the tables, with places as given
  abbrev pub linked : (ℕ → ℕ) → (ℕ → ℕ) → Links
  linked x y = record {
    n = s.n;
    e = s.e;
    f = s.f;
    x = x;
    y = y;
    out = of_entry 2;
    adj = of_face;
    next = of_half 0;
    prev = of_half 1;
    face = of_half 2;
    origin = of_half 3;
  }

  -- a coordinate of entry v; past the count 0
  abbrev pub coordinate : ℕ → ℕ → ℕ
  coordinate field v = cond (nat_lt v s.n) (of_entry field v) 0

  -- the links and the places of the tables
  abbrev pub held : Links
  held = linked (coordinate 0) (coordinate 1)
