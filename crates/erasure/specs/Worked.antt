-- Worked erasures: inside, on the hull with a corner that becomes flat, on the hull with a flip, amid a line.
use Rattle.std.specs.Prelude.{◌≡◌, [], ◌∷◌, length, pos, Some, None}
use Rattle.plane.specs.Plane.{S}
use Rattle.links.specs.Links.{Links, place}
use Rattle.erasure.specs.Compared.{Tables, tables, read, Erases}
use Rattle.erasure.specs.Erased.{erased, hull_scan}

-- (0,0) (4,0) (4,4) (0,4), and 4 at (2,2)
abbrev pub centred : Tables
centred =
    tables (0 ∷ 4 ∷ 4 ∷ 0 ∷ 2 ∷ []) (0 ∷ 0 ∷ 4 ∷ 4 ∷ 2 ∷ []) (0 ∷ 1 ∷ 7 ∷ 11 ∷ 3 ∷ []) (1 ∷ 0 ∷ 3 ∷ 9 ∷ 5 ∷ [])
    (2 ∷ 15 ∷ 4 ∷ 6 ∷ 0 ∷ 13 ∷ 8 ∷ 1 ∷ 3 ∷ 10 ∷ 12 ∷ 7 ∷ 9 ∷ 14 ∷ 5 ∷ 11 ∷ []) (4 ∷ 7 ∷ 0 ∷ 8 ∷ 2 ∷ 14 ∷ 3 ∷ 11 ∷ 6 ∷ 12 ∷ 9 ∷ 15 ∷ 10 ∷ 5 ∷ 13 ∷ 1 ∷ [])
    (1 ∷ 0 ∷ 1 ∷ 2 ∷ 1 ∷ 4 ∷ 2 ∷ 0 ∷ 2 ∷ 3 ∷ 3 ∷ 0 ∷ 3 ∷ 4 ∷ 4 ∷ 0 ∷ []) (0 ∷ 1 ∷ 1 ∷ 4 ∷ 4 ∷ 0 ∷ 1 ∷ 2 ∷ 2 ∷ 4 ∷ 2 ∷ 3 ∷ 3 ∷ 4 ∷ 3 ∷ 0 ∷ [])

-- (0,0) (8,0) (0,8) (5,5) (9,9)
abbrev pub kite : Tables
kite =
    tables (0 ∷ 8 ∷ 0 ∷ 5 ∷ 9 ∷ []) (0 ∷ 0 ∷ 8 ∷ 5 ∷ 9 ∷ []) (0 ∷ 1 ∷ 7 ∷ 3 ∷ 11 ∷ []) (1 ∷ 0 ∷ 5 ∷ 3 ∷ 7 ∷ [])
    (2 ∷ 9 ∷ 4 ∷ 10 ∷ 0 ∷ 6 ∷ 8 ∷ 13 ∷ 5 ∷ 15 ∷ 12 ∷ 1 ∷ 3 ∷ 14 ∷ 7 ∷ 11 ∷ []) (4 ∷ 11 ∷ 0 ∷ 12 ∷ 2 ∷ 8 ∷ 5 ∷ 14 ∷ 6 ∷ 1 ∷ 3 ∷ 15 ∷ 10 ∷ 7 ∷ 13 ∷ 9 ∷ [])
    (1 ∷ 0 ∷ 1 ∷ 3 ∷ 1 ∷ 2 ∷ 2 ∷ 4 ∷ 2 ∷ 0 ∷ 3 ∷ 0 ∷ 3 ∷ 4 ∷ 4 ∷ 0 ∷ []) (0 ∷ 1 ∷ 1 ∷ 3 ∷ 3 ∷ 0 ∷ 3 ∷ 2 ∷ 2 ∷ 0 ∷ 1 ∷ 4 ∷ 4 ∷ 3 ∷ 4 ∷ 2 ∷ [])

-- (0,0) (2,2) (5,5)
abbrev pub aligned : Tables
aligned =
    tables (0 ∷ 2 ∷ 5 ∷ []) (0 ∷ 2 ∷ 5 ∷ []) (0 ∷ 1 ∷ 3 ∷ []) (0 ∷ []) (2 ∷ 0 ∷ 3 ∷ 1 ∷ []) (1 ∷ 3 ∷ 0 ∷ 2 ∷ []) (0 ∷ 0 ∷ 0 ∷ 0 ∷ []) (0 ∷ 1 ∷ 1 ∷ 2 ∷ [])

-- erase 4: e 5, f 3, none moved
abbrev inside : Type 0
inside =
    Erases centred 4 None
    (tables (0 ∷ 4 ∷ 4 ∷ 0 ∷ []) (0 ∷ 0 ∷ 4 ∷ 4 ∷ []) (9 ∷ 5 ∷ 2 ∷ 3 ∷ []) (3 ∷ 2 ∷ 5 ∷ []) (5 ∷ 9 ∷ 4 ∷ 7 ∷ 6 ∷ 8 ∷ 2 ∷ 1 ∷ 0 ∷ 3 ∷ [])
    (8 ∷ 7 ∷ 6 ∷ 9 ∷ 2 ∷ 0 ∷ 4 ∷ 3 ∷ 5 ∷ 1 ∷ []) (2 ∷ 0 ∷ 1 ∷ 0 ∷ 1 ∷ 2 ∷ 1 ∷ 0 ∷ 2 ∷ 0 ∷ []) (0 ∷ 1 ∷ 2 ∷ 3 ∷ 3 ∷ 1 ∷ 1 ∷ 2 ∷ 3 ∷ 0 ∷ []))

-- erase 0: e 5, f 3, 4 moved. What was 4 is now 0, straight between 1 and 3, and still on the hull
abbrev flat_corner : Links → Type 0
flat_corner m = (S (place m 1) (place m 0) (place m 3) ≡ pos 0) × (m.origin (m.out 0) ≡ 0) × (m.face (m.out 0) ≡ 0)

abbrev corner : Type 0
corner =
    Erases centred 0 (Some 4)
    (tables (2 ∷ 4 ∷ 4 ∷ 0 ∷ []) (2 ∷ 0 ∷ 4 ∷ 4 ∷ []) (5 ∷ 2 ∷ 0 ∷ 1 ∷ []) (1 ∷ 0 ∷ 3 ∷ []) (4 ∷ 7 ∷ 5 ∷ 6 ∷ 9 ∷ 1 ∷ 8 ∷ 2 ∷ 3 ∷ 0 ∷ [])
    (9 ∷ 5 ∷ 7 ∷ 8 ∷ 0 ∷ 2 ∷ 3 ∷ 1 ∷ 6 ∷ 4 ∷ []) (1 ∷ 0 ∷ 0 ∷ 2 ∷ 1 ∷ 0 ∷ 2 ∷ 0 ∷ 2 ∷ 1 ∷ []) (2 ∷ 3 ∷ 1 ∷ 0 ∷ 3 ∷ 0 ∷ 1 ∷ 2 ∷ 2 ∷ 0 ∷ []))
    × flat_corner (erased (read centred) 0)

-- erase 0: one flip (9 is the outer spoke), e 6, f 4, 4 moved
abbrev flipped : Type 0
flipped =
    Erases kite 0 (Some 4)
    (tables (9 ∷ 8 ∷ 0 ∷ 5 ∷ []) (9 ∷ 0 ∷ 8 ∷ 5 ∷ []) (0 ∷ 4 ∷ 9 ∷ 1 ∷ []) (9 ∷ 1 ∷ 5 ∷ 0 ∷ []) (3 ∷ 8 ∷ 6 ∷ 10 ∷ 9 ∷ 2 ∷ 5 ∷ 1 ∷ 7 ∷ 11 ∷ 0 ∷ 4 ∷ [])
    (10 ∷ 7 ∷ 5 ∷ 0 ∷ 11 ∷ 6 ∷ 2 ∷ 8 ∷ 1 ∷ 4 ∷ 3 ∷ 9 ∷ []) (3 ∷ 1 ∷ 2 ∷ 3 ∷ 0 ∷ 2 ∷ 2 ∷ 1 ∷ 1 ∷ 0 ∷ 3 ∷ 0 ∷ []) (0 ∷ 3 ∷ 1 ∷ 3 ∷ 1 ∷ 2 ∷ 3 ∷ 2 ∷ 0 ∷ 2 ∷ 1 ∷ 0 ∷ []))
    × (length (hull_scan (read kite) 9).turned ≡ 1)

-- erase 1: e 1, 2 moved
abbrev amid : Type 0
amid = Erases aligned 1 (Some 2) (tables (0 ∷ 5 ∷ []) (0 ∷ 5 ∷ []) (0 ∷ 1 ∷ []) (0 ∷ []) (1 ∷ 0 ∷ []) (1 ∷ 0 ∷ []) (0 ∷ 0 ∷ []) (0 ∷ 1 ∷ []))

abbrev pub WorkedErasures : Type 0
WorkedErasures = inside × corner × flipped × amid
