-- An erasure: the links after entry v has gone (triangulation_ext::remove_core).
use Rattle.std.specs.Prelude.{ℕ, suc, pred, ◌+◌, ◌-◌, true, false, cond, ◌&&◌, ltb, ◌∷◌, Some, None, Option, ◌==◌, nat_eq, nat_le, nat_lt}
use Rattle.links.specs.Links.{Links, ccw}
use Rattle.planar.specs.Star.{spoke}
use Rattle.surgery.specs.Sound.{star_of}
use Rattle.surgery.specs.Sweep.{cleanup, swap_remove_entry}
use Rattle.erasure.specs.Spokes.{first, degree, spoked, border}
use Rattle.erasure.specs.Detach.{detach}
use Rattle.erasure.specs.Fill.{remesh, new_edges}
use Rattle.erasure.specs.Legalize.{legalize, turns}
use Rattle.erasure.specs.Scan.{Scan, scanned}
use Rattle.erasure.specs.Line.{remove_when_degenerate}

-- the edges and faces at v in L are removed from K, and then v
abbrev pub removed : Links → ℕ → Links → Links
removed L v K = swap_remove_entry v (cleanup (λ k. nat_lt k L.e && spoked L v k) (star_of L v) K)

-- inside: the hole is opened, filled with a fan, and its new edges are made legal; the old ones are kept (isolate_vertex_and_fill_hole)
abbrev pub filled : Links → ℕ → Links
filled m v =
    let s = m.out v in
    let k = degree m s in
    remesh (k - 3) (detach m v (m.f + (k - 3)) (border m s k) (m.next s)) (m.next s)

abbrev pub legal_inside : Links → ℕ → Links
legal_inside m v = legalize turns (λ k. ltb k m.e) (new_edges m.e (degree m (m.out v) - 3)) (filled m v)

abbrev pub erase_inside : Links → ℕ → Links
erase_inside m v = removed m v (legal_inside m v)

-- on the hull, z is the outer spoke: the scan from the spoke after z on, the cut, and the edges that the scan flipped are made legal (isolate_convex_hull_vertex)
abbrev pub hull_scan : Links → ℕ → Scan
hull_scan m z = scanned m (ccw m z) (pred (degree m (ccw m z)))

abbrev pub hull_cut_off : Links → ℕ → ℕ → Scan → Links
hull_cut_off m v z a = detach a.links v 0 (m.next z ∷ a.strip) (m.next z)

abbrev pub legal_on_hull : Links → ℕ → ℕ → Scan → Links
legal_on_hull m v z a = legalize turns (λ _. false) a.turned (hull_cut_off m v z a)

abbrev pub erase_on_hull : Links → ℕ → ℕ → Links
erase_on_hull m v z = removed (hull_scan m z).links v (legal_on_hull m v z (hull_scan m z))

-- the number of the first outer spoke from the out_edge on, or how many spokes there are
abbrev pub outer_at : Links → ℕ → ℕ
outer_at m v = first (degree m (m.out v)) (λ i. nat_eq (m.face (spoke m (m.out v) i)) 0)

-- the links after the erasure of v
abbrev pub erased : Links → ℕ → Links
erased m v =
    elim (nat_le m.f 1) [
      | true ↦ remove_when_degenerate m v
      | false ↦ elim (nat_lt (outer_at m v) (degree m (m.out v))) [ true ↦ erase_on_hull m v (spoke m (m.out v) (outer_at m v)) | false ↦ erase_inside m v ]
    ]

-- the number that moved to v: the last, unless v is the last
abbrev pub moved : Links → ℕ → Option ℕ
moved m v = cond (suc v == m.n) None (Some (pred m.n))
