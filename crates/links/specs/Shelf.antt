-- The entries of a shelf as a check sees them: the place of each, or why it has none.
use Rattle.std.specs.Prelude.{ℕ, zero, suc, min, List, [], ◌∷◌, length, take, pos, Ok, Option, Result}
use Rattle.plane.specs.Plane.{Pt, pt}
use Rattle.entry.specs.Placing.{spot_of}
use Rattle.entry.specs.declared.fault.Cause.{Cause}
use Rattle.entry.specs.declared.fault.EntryFault.{EntryFault}
use Rattle.links.specs.declared.fault.CheckFault.{CheckFault}
use Rattle.links.specs.declared.shape.Shape.{Shape}
use Rattle.links.specs.Law.{Roomy, EveryPlace}
use Rattle.links.specs.Links.{Links}
use Rattle.links.specs.Rules.{Sound}
use Rattle.links.specs.Verdict.{judged, verdict, x_coordinate, y_coordinate}

-- a kind of entry, by how its scalars read
module _ {E Sc : Type 0} (reading : Sc → Result ℕ Cause) (across along : E → Sc) where
  -- the place of entry v, or why it has none; past the end (0, 0)
  abbrev pub spot_at : List E → ℕ → Result (ℕ × ℕ) EntryFault
  spot_at [] v = Ok (0, 0)
  spot_at (e ∷ es) zero = spot_of reading (across e) (along e)
  spot_at (e ∷ es) (suc v) = spot_at es v

  -- the place as a point
  abbrev pub point_at : List E → ℕ → Pt
  point_at es v = pt (pos (x_coordinate (spot_at es v))) (pos (y_coordinate (spot_at es v)))

  -- the links of tables with the places of entries
  abbrev pub seen : List ℕ → Shape → List E → Links
  seen w s es = judged w s (spot_at es)

  -- what check answers of a draft and a shelf with a count beside it: a count above the shelf's length is read as that length
  abbrev pub answer : List ℕ → Shape → List E → ℕ → Option CheckFault
  answer w s es count = verdict w s (min count (length es)) (spot_at (take s.n es))

  -- a draft fits a shelf: there is room, every entry has a place, and links and places are sound
  abbrev pub FitsShelf : List ℕ → Shape → List E → ℕ → Type 0
  FitsShelf w s es count = Roomy w s (min count (length es)) × EveryPlace s.n (spot_at (take s.n es)) × Sound (seen w s (take s.n es))
