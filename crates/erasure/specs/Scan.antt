-- An entry of the hull is made ready to be cut off (triangulation_ext::isolate_convex_hull_vertex).
use Rattle.std.specs.Prelude.{ℕ, zero, suc, ◌/◌, true, false, List, [], ◌∷◌, pos, int_lt}
use Rattle.plane.specs.Plane.{S}
use Rattle.links.specs.Links.{Links, rev, to, place}
use Rattle.planar.specs.Star.{spoke}
use Rattle.erasure.specs.Legalize.{flip_cw}

-- the halves that will be outer, the last one first, and the edges that were flipped, the last one first
pub record Scan : Type 0 where
  pub links : Links
  pub strip : List ℕ
  pub turned : List ℕ

-- top comes after the strip: while it turns left there, the spoke between the two is flipped, and takes their place
abbrev pub pushed : Links → List ℕ → ℕ → List ℕ → Scan
pushed L turned top [] = record { links = L; strip = top ∷ []; turned = turned }
pushed L turned top (below ∷ l) =
    let g = rev (L.prev top) in
    elim (int_lt (pos 0) (S (place L (L.origin below)) (place L (to L below)) (place L (to L top)))) [
      | true ↦ pushed (flip_cw L (g / 2)) ((g / 2) ∷ turned) g l
      | false ↦ record { links = L; strip = top ∷ below ∷ l; turned = turned }
    ]

-- the border halves of the spokes s, ccw s, .. are taken, so many
abbrev pub scanned : Links → ℕ → ℕ → Scan
scanned m s zero = record { links = m; strip = []; turned = [] }
scanned m s (suc i) = let a = scanned m s i in pushed a.links a.turned (a.links.next (spoke m s i)) a.strip
