-- Worked maps: a square with either diagonal, and a map that rule 8 refuses.
use Rattle.std.specs.Prelude.{◌≡◌, ℕ, List, [], ◌∷◌, Some, slice_index}
use Rattle.links.specs.declared.fault.Site.TheVariants.{FaceEntry}
use Rattle.links.specs.Links.{Links}
use Rattle.links.specs.Rules.{Sound}
use Rattle.links.specs.Verdict.{broken, link_rules}

-- links written out, field by field
abbrev listed : ℕ → ℕ → ℕ → List ℕ → List ℕ → List ℕ → List ℕ → List ℕ → List ℕ → List ℕ → List ℕ → Links
listed n e f x y out adj next prev face origin = record {
  n = n;
  e = e;
  f = f;
  x = λ i. slice_index x i;
  y = λ i. slice_index y i;
  out = λ i. slice_index out i;
  adj = λ i. slice_index adj i;
  next = λ i. slice_index next i;
  prev = λ i. slice_index prev i;
  face = λ i. slice_index face i;
  origin = λ i. slice_index origin i;
}

-- four entries around, with the diagonal from 0 to 2
abbrev four : List ℕ → List ℕ → Links
four x y =
    listed 4 5 3 x y (0 ∷ 1 ∷ 3 ∷ 7 ∷ []) (1 ∷ 0 ∷ 5 ∷ [])
    (2 ∷ 9 ∷ 4 ∷ 1 ∷ 0 ∷ 6 ∷ 8 ∷ 3 ∷ 5 ∷ 7 ∷ []) (4 ∷ 3 ∷ 0 ∷ 7 ∷ 2 ∷ 8 ∷ 5 ∷ 9 ∷ 6 ∷ 1 ∷ [])
    (1 ∷ 0 ∷ 1 ∷ 0 ∷ 1 ∷ 2 ∷ 2 ∷ 0 ∷ 2 ∷ 0 ∷ []) (0 ∷ 1 ∷ 1 ∷ 2 ∷ 2 ∷ 0 ∷ 2 ∷ 3 ∷ 3 ∷ 0 ∷ [])

-- (0,0) (4,0) (4,4) (0,4), diagonal 0-2
abbrev pub square : Links
square = four (0 ∷ 4 ∷ 4 ∷ 0 ∷ []) (0 ∷ 0 ∷ 4 ∷ 4 ∷ [])

-- the same with the diagonal 1-3
abbrev pub crossed : Links
crossed =
    listed 4 5 3 (0 ∷ 4 ∷ 4 ∷ 0 ∷ []) (0 ∷ 0 ∷ 4 ∷ 4 ∷ []) (0 ∷ 2 ∷ 8 ∷ 4 ∷ []) (1 ∷ 0 ∷ 6 ∷ [])
    (2 ∷ 5 ∷ 4 ∷ 6 ∷ 0 ∷ 9 ∷ 8 ∷ 1 ∷ 3 ∷ 7 ∷ []) (4 ∷ 7 ∷ 0 ∷ 8 ∷ 2 ∷ 1 ∷ 3 ∷ 9 ∷ 6 ∷ 5 ∷ [])
    (1 ∷ 0 ∷ 1 ∷ 2 ∷ 1 ∷ 0 ∷ 2 ∷ 0 ∷ 2 ∷ 0 ∷ []) (0 ∷ 1 ∷ 1 ∷ 3 ∷ 3 ∷ 0 ∷ 1 ∷ 2 ∷ 2 ∷ 3 ∷ [])

-- (0,0) (4,0) (5,5) (0,4), diagonal 0-2
abbrev pub skew : Links
skew = four (0 ∷ 4 ∷ 5 ∷ 0 ∷ []) (0 ∷ 0 ∷ 5 ∷ 4 ∷ [])

-- (0,0) (2,2) (5,5) on a line
abbrev pub line : Links
line =
    listed 3 2 1 (0 ∷ 2 ∷ 5 ∷ []) (0 ∷ 2 ∷ 5 ∷ []) (0 ∷ 1 ∷ 3 ∷ []) (0 ∷ [])
    (2 ∷ 0 ∷ 3 ∷ 1 ∷ []) (1 ∷ 3 ∷ 0 ∷ 2 ∷ []) (0 ∷ 0 ∷ 0 ∷ 0 ∷ []) (0 ∷ 1 ∷ 1 ∷ 2 ∷ [])

-- either diagonal of the square is sound, and so is the line; entry 3 is inside the circle of face 1 of the skew map
abbrev pub WorkedMaps : Type 0
WorkedMaps = Sound square × Sound crossed × Sound line × (link_rules skew ≡ Some (broken 8 1 (FaceEntry 1 3)))
