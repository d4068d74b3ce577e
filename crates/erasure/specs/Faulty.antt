-- Three faults that a port of an erasure can have: the definition with each of them, and a sound map that it breaks.
use Rattle.std.specs.Prelude.{◌≡◌, ℕ, zero, suc, ◌/◌, Bool, true, false, ◌&&◌, List, [], ◌∷◌, pos, Some, int_le, nat_lt}
use Rattle.plane.specs.Plane.{S}
use Rattle.links.specs.Links.{Links, rev, to, place, ccw}
use Rattle.links.specs.Rules.{Sound}
use Rattle.links.specs.Verdict.{broken, link_rules}
use Rattle.links.specs.declared.fault.Site.{Site}
use Rattle.links.specs.declared.fault.Site.TheVariants.{Half, Face}
use Rattle.planar.specs.Star.{spoke}
use Rattle.surgery.specs.Sound.{star_of}
use Rattle.surgery.specs.Sweep.{swap_remove_edge, swap_remove_face, swap_remove_entry, sweep, cleanup}
use Rattle.erasure.specs.Compared.{tables, read}
use Rattle.erasure.specs.Erased.{removed, legal_inside, legal_on_hull}
use Rattle.erasure.specs.Legalize.{flip_cw}
use Rattle.erasure.specs.Scan.{Scan}
use Rattle.erasure.specs.Spokes.{spoked}
use Rattle.erasure.specs.Worked.{centred}

-- ---- a target on the line is flipped, not only one strictly left
abbrev pushed_flat : Links → List ℕ → ℕ → List ℕ → Scan
pushed_flat L turned top [] = record { links = L; strip = top ∷ []; turned = turned }
pushed_flat L turned top (below ∷ l) =
    let g = rev (L.prev top) in
    elim (int_le (pos 0) (S (place L (L.origin below)) (place L (to L below)) (place L (to L top)))) [
      | true ↦ pushed_flat (flip_cw L (g / 2)) ((g / 2) ∷ turned) g l
      | false ↦ record { links = L; strip = top ∷ below ∷ l; turned = turned }
    ]

abbrev scanned_flat : Links → ℕ → ℕ → Scan
scanned_flat m s zero = record { links = m; strip = []; turned = [] }
scanned_flat m s (suc i) = let a = scanned_flat m s i in pushed_flat a.links a.turned (a.links.next (spoke m s i)) a.strip

-- z is the outer spoke of v, and last the number of the others
abbrev pub erased_flat : Links → ℕ → ℕ → ℕ → Links
erased_flat m v z last = let a = scanned_flat m (ccw m z) last in removed a.links v (legal_on_hull m v z a)

-- ---- the halves of the entry that moves keep their old origin
abbrev pub unrenamed : Links → ℕ → Links
unrenamed m v =
    let L = cleanup (λ k. nat_lt k m.e && spoked m v k) (star_of m v) (legal_inside m v) in
    let K = swap_remove_entry v L in
    record { n = K.n; e = K.e; f = K.f; x = K.x; y = K.y; out = K.out; adj = K.adj; next = K.next; prev = K.prev; face = K.face; origin = L.origin }

-- ---- edges are removed from the lowest number up; a number that is past the count by then is passed over
abbrev rising : (ℕ → Bool) → ℕ → Links → Links
rising dead zero L = L
rising dead (suc k) L = let K = rising dead k L in elim (dead k && nat_lt k K.e) [ true ↦ swap_remove_edge k K | false ↦ K ]

abbrev pub erased_rising : Links → ℕ → Links
erased_rising m v =
    let L = legal_inside m v in
    let K = rising (λ k. nat_lt k m.e && spoked m v k) L.e L in
    swap_remove_entry v (sweep swap_remove_face (star_of m v) K.f K)

-- ---- what they break
-- (2,2), and around it (0,0) (4,0) (4,4) (0,4)
abbrev pub hub : Links
hub =
    read (tables (2 ∷ 0 ∷ 4 ∷ 4 ∷ 0 ∷ []) (2 ∷ 0 ∷ 0 ∷ 4 ∷ 4 ∷ []) (3 ∷ 0 ∷ 1 ∷ 7 ∷ 11 ∷ []) (1 ∷ 0 ∷ 3 ∷ 9 ∷ 5 ∷ []) (2 ∷ 15 ∷ 4 ∷ 6 ∷ 0 ∷ 13 ∷ 8 ∷ 1 ∷ 3 ∷ 10 ∷ 12 ∷ 7 ∷ 9 ∷ 14 ∷ 5 ∷ 11 ∷ []) (4 ∷ 7 ∷ 0 ∷ 8 ∷ 2 ∷ 14 ∷ 3 ∷ 11 ∷ 6 ∷ 12 ∷ 9 ∷ 15 ∷ 10 ∷ 5 ∷ 13 ∷ 1 ∷ []) (1 ∷ 0 ∷ 1 ∷ 2 ∷ 1 ∷ 4 ∷ 2 ∷ 0 ∷ 2 ∷ 3 ∷ 3 ∷ 0 ∷ 3 ∷ 4 ∷ 4 ∷ 0 ∷ []) (1 ∷ 2 ∷ 2 ∷ 0 ∷ 0 ∷ 1 ∷ 2 ∷ 3 ∷ 3 ∷ 0 ∷ 3 ∷ 4 ∷ 4 ∷ 0 ∷ 4 ∷ 1 ∷ []))

-- the result breaks the rule first that is told, so it is not sound
abbrev Breaks : Links → ℕ → ℕ → Site → Type 0
Breaks m r c a = (link_rules m ≡ Some (broken r c a)) × ¬ (Sound m)

abbrev pub FaultyPorts : Type 0
FaultyPorts =
    Sound (read centred) × Sound hub × Breaks (erased_flat (read centred) 0 15 2) 5 1 (Face 1) × Breaks (unrenamed hub 0) 3 1 (Half 3) × Breaks (erased_rising (read centred) 4) 3 1 (Half 0)
