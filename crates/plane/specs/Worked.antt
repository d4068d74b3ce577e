-- Worked values.
use Rattle.std.specs.Prelude.{◌≡◌, pos, negsuc}
use Rattle.plane.specs.Plane.{S, C}
use Rattle.plane.specs.Spot.{«at»}

-- twice the area of a triangle of base 4 and height 3; and a place on, inside and outside the circle through (0,0), (4,0), (0,4)
abbrev pub WorkedValues : Type 0
WorkedValues =
    (S («at» 0 0) («at» 4 0) («at» 2 3) ≡ pos 12)
    × (C («at» 0 0) («at» 4 0) («at» 0 4) («at» 4 4) ≡ pos 0)
    × (C («at» 0 0) («at» 4 0) («at» 0 4) («at» 1 1) ≡ pos 96)
    × (C («at» 0 0) («at» 4 0) («at» 0 4) («at» 5 5) ≡ negsuc 159)
