-- Around an entry of a sound map: what its hole needs.
use Rattle.std.specs.Prelude.{◌≡◌, ℕ, suc, ◌<◌, Bool, true, pos, ◌≤ℤ◌, ◌<ℤ◌}
use Rattle.plane.specs.Plane.{Pt, S, C, far}
use Rattle.links.specs.Links.{Links, rev, halves, place}
use Rattle.links.specs.Rules.{Sound}
use Rattle.planar.specs.Star.{spoke, tip, Ring, Inner, Fan}
use Rattle.delaunay.specs.Ring.{Next}
use Rattle.delaunay.specs.Star.{Star, Chain}
use Rattle.delaunay.specs.Mesh.{Mesh, Lawful, Below, Across, Top}
use Rattle.delaunay.specs.Statements.{Entry}

-- the spokes of an inner entry are a star
abbrev pub InnerStar : Type 0
InnerStar = (m : Links) → Sound m → (s : ℕ) → s < halves m → Inner m (m.origin s) → (size : ℕ) → Ring m s size → Star (place m (m.origin s)) (tip m s) size

-- every other entry is elsewhere, and outside the old faces
abbrev pub InnerOthers : Type 0
InnerOthers =
    (m : Links) → Sound m → (s : ℕ) → s < halves m → Inner m (m.origin s) → (v : ℕ) → v < m.n → ¬ (v ≡ m.origin s)
    → (pos 0 <ℤ far (place m (m.origin s)) (place m v)) × ((i : ℕ) → pos 0 ≤ℤ C (tip m s i) (tip m s (suc i)) (place m v) (place m (m.origin s)))

-- the spokes of an entry of the hull are a chain
abbrev pub HullChain : Type 0
HullChain = (m : Links) → Sound m → (s : ℕ) → s < halves m → (last : ℕ) → Fan m s last → Chain (place m (m.origin s)) (tip m s) last

-- every other entry is elsewhere, between its ends, and outside the old faces
abbrev pub HullOthers : Type 0
HullOthers =
    (m : Links) → Sound m → (s : ℕ) → s < halves m → (last : ℕ) → Fan m s last → (v : ℕ) → v < m.n → ¬ (v ≡ m.origin s)
    → Entry (place m (m.origin s)) (tip m s) last (place m v)

-- the hole of an inner entry, filled with faces on the ring of its tips, each edge legal: they turn left, and hold no entry but the erased one
abbrev pub ErasedInside : Type 0
ErasedInside =
    (m : Links) → Sound m → (s : ℕ) → s < halves m → Inner m (m.origin s) → (size : ℕ) → Ring m s size
    → (live : ℕ → Bool) (nx tw lab : ℕ → ℕ) → Mesh ℕ (λ h. live h ≡ true) nx tw lab size (Next size)
    → ((h : ℕ) → live h ≡ true → live (tw h) ≡ true → Lawful ℕ nx tw lab (tip m s) h) → (h : ℕ) → live h ≡ true
    → (pos 0 <ℤ S (tip m s (lab h)) (tip m s (lab (nx h))) (tip m s (lab (nx (nx h)))))
    × ((v : ℕ) → v < m.n → ¬ (v ≡ m.origin s) → C (tip m s (lab h)) (tip m s (lab (nx h))) (tip m s (lab (nx (nx h)))) (place m v) ≤ℤ pos 0)

-- the hole of an entry on the hull, with the entry as apex: the faces without it turn left, or are flat, their edges are legal, and what is across from it turns right: no face holds an entry but the erased one, and what is across has them all on its right
abbrev pub ErasedHull : Type 0
ErasedHull =
    (m : Links) → Sound m → (s : ℕ) → s < halves m → (last : ℕ) → Fan m s last
    → (live : ℕ → Bool) (nx tw lab : ℕ → ℕ) → Mesh ℕ (λ h. live h ≡ true) nx tw lab (suc (suc last)) (Next (suc (suc last)))
    → ((h : ℕ) → Below ℕ (λ h. live h ≡ true) nx lab last h → pos 0 ≤ℤ S (tip m s (lab h)) (tip m s (lab (nx h))) (tip m s (lab (nx (nx h)))))
    → ((h : ℕ) → Below ℕ (λ h. live h ≡ true) nx lab last h → Below ℕ (λ h. live h ≡ true) nx lab last (tw h) → Lawful ℕ nx tw lab (tip m s) h)
    → ((a b c : ℕ) → Top ℕ (λ h. live h ≡ true) nx lab last a b → Top ℕ (λ h. live h ≡ true) nx lab last b c → S (tip m s a) (tip m s b) (tip m s c) ≤ℤ pos 0)
    → (v : ℕ) → v < m.n → ¬ (v ≡ m.origin s)
    → ((h : ℕ) → Below ℕ (λ h. live h ≡ true) nx lab last h → C (tip m s (lab h)) (tip m s (lab (nx h))) (tip m s (lab (nx (nx h)))) (place m v) ≤ℤ pos 0)
    × ((h : ℕ) → Across ℕ (λ h. live h ≡ true) nx lab last h → S (tip m s (lab h)) (tip m s (lab (nx h))) (place m v) ≤ℤ pos 0)

-- the border of the hole stays legal: an edge of an old face at the erased entry, with an inner face beyond, and a new corner x on the entry's side whose circle does not leave the entry out
abbrev pub BorderLegal : Type 0
BorderLegal =
    (m : Links) → Sound m → (s : ℕ) → s < halves m → (i : ℕ) → 0 < m.face (spoke m s i) → 0 < m.face (rev (m.next (spoke m s i)))
    → (x : Pt) → pos 0 <ℤ S (tip m s i) (tip m s (suc i)) x → pos 0 ≤ℤ C (tip m s i) (tip m s (suc i)) x (place m (m.origin s))
    → C (tip m s i) (tip m s (suc i)) x (place m (m.origin (m.next (m.next (rev (m.next (spoke m s i))))))) ≤ℤ pos 0
