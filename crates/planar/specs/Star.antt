-- What a sound map is like around an entry.
use Rattle.std.specs.Prelude.{◌≡◌, ◌⊎◌, ℕ, suc, ◌-◌, ◌≤◌, ◌<◌, pos, ◌≤ℤ◌, ◌<ℤ◌}
use Rattle.plane.specs.Plane.{Pt, S}
use Rattle.links.specs.Links.{Links, rev, halves, to, ccw, place, walk}
use Rattle.links.specs.Rules.{On, Sound}
use Rattle.planar.specs.Parts.{InRange, Woven, CcwFaces}
use Rattle.planar.specs.Order.{Ccw3, Along}

-- no two entries are at one place
abbrev pub PlacesDiffer : Type 0
PlacesDiffer = (m : Links) → Sound m → (u v : ℕ) → u < m.n → v < m.n → place m u ≡ place m v → u ≡ v

-- no two spokes have one end
abbrev pub EndsDiffer : Type 0
EndsDiffer = (m : Links) → Sound m → (h k : ℕ) → h < halves m → k < halves m → m.origin h ≡ m.origin k → to m h ≡ to m k → h ≡ k

-- no two spokes lie in one direction
abbrev pub SpokesDiffer : Type 0
SpokesDiffer = (m : Links) → Sound m → (h k : ℕ) → h < halves m → k < halves m → m.origin h ≡ m.origin k → Along (place m (m.origin h)) (place m (to m h)) (place m (to m k)) → h ≡ k

-- an entry has at most one outer spoke
abbrev pub OneOuter : Type 0
OneOuter = (m : Links) → Sound m → 1 < m.f → (h k : ℕ) → h < halves m → k < halves m → m.face h ≡ 0 → m.face k ≡ 0 → m.origin h ≡ m.origin k → h ≡ k

-- from s on, the steps go once through all numbers of a kind: size of them
pub record Cycle (bound : ℕ) (step : ℕ → ℕ) (Kind : ℕ → Type 0) (s size : ℕ) : Type 0 where
  pub some : 0 < size
  pub few : size ≤ bound
  pub closed : walk step size s ≡ s
  pub apart : (i j : ℕ) → i < j → j < size → ¬ (walk step i s ≡ walk step j s)
  pub every : (h : ℕ) → h < bound → Kind h → (i : ℕ) × (i < size) × (walk step i s ≡ h)

-- the spokes of the origin of s, counterclockwise from s
module _ (m : Links) (s : ℕ) where
  -- the spoke number i
  abbrev pub spoke : ℕ → ℕ
  spoke i = walk (ccw m) i s

  -- the place of its end
  abbrev pub tip : ℕ → Pt
  tip i = place m (to m (spoke i))

  -- size is their number
  abbrev pub Ring : ℕ → Type 0
  Ring size = Cycle (halves m) (ccw m) (λ h. m.origin h ≡ m.origin s) s size

-- every half begins a ring
abbrev pub Rings : Type 0
Rings = (m : Links) → InRange m → Woven m → (s : ℕ) → s < halves m → (size : ℕ) × Ring m s size

-- the halves of a face, from any one of them
abbrev pub Borders : Type 0
Borders = (m : Links) → InRange m → Woven m → (s : ℕ) → s < halves m → (size : ℕ) × Cycle (halves m) m.next (λ h. m.face h ≡ m.face s) s size

-- the cycles of rule 4 come around in fewer steps than there are halves
abbrev pub Soon : Type 0
Soon = (m : Links) → InRange m → Woven m → (h : ℕ) → h < halves m
    → ((j : ℕ) × (j < halves m) × (walk (ccw m) j (m.out (m.origin h)) ≡ h)) × ((j : ℕ) × (j < halves m) × (walk m.next j (m.adj (m.face h)) ≡ h))

-- an inner face has three halves
abbrev pub ThreeHalves : Type 0
ThreeHalves = (m : Links) → InRange m → Woven m → CcwFaces m → (s : ℕ) → s < halves m → 0 < m.face s → (size : ℕ) → Cycle (halves m) m.next (λ h. m.face h ≡ m.face s) s size → size ≡ 3

-- the inner face left of a spoke: along the spoke, along the border, and back along the next spoke
pub record StarFace (m : Links) (h : ℕ) : Type 0 where
  pub border_from : m.origin (m.next h) ≡ to m h
  pub border_to : to m (m.next h) ≡ to m (ccw m h)
  pub returns : m.next (m.next h) ≡ rev (ccw m h)
  pub again : m.next (rev (ccw m h)) ≡ h

-- every spoke with an inner face on its left
abbrev pub StarFaces : Type 0
StarFaces = (m : Links) → InRange m → Woven m → CcwFaces m → (h : ℕ) → h < halves m → 0 < m.face h → StarFace m h

-- an entry is a corner of an inner face once at most
abbrev pub CornersDiffer : Type 0
CornersDiffer = (m : Links) → InRange m → Woven m → CcwFaces m → (h k : ℕ) → h < halves m → k < halves m → 0 < m.face h → m.face h ≡ m.face k → m.origin h ≡ m.origin k → h ≡ k

-- an entry with no outer spoke
abbrev pub Inner : Links → ℕ → Type 0
Inner m v = (h : ℕ) → h < halves m → m.origin h ≡ v → 0 < m.face h

-- it has three spokes at least
abbrev pub ThreeSpokes : Type 0
ThreeSpokes = (m : Links) → Sound m → (s : ℕ) → s < halves m → Inner m (m.origin s) → (size : ℕ) → Ring m s size → 3 ≤ size

-- its spokes stand in one counterclockwise order
abbrev pub Ordered : Type 0
Ordered = (m : Links) → Sound m → (s : ℕ) → s < halves m → Inner m (m.origin s) → (size : ℕ) → Ring m s size → (i j l : ℕ) → i < j → j < l → l < size → Ccw3 (place m (m.origin s)) (tip m s i) (tip m s j) (tip m s l)

-- they go all the way around: every place lies in a sector
abbrev pub Surrounded : Type 0
Surrounded = (m : Links) → Sound m → (s : ℕ) → s < halves m → Inner m (m.origin s) → (size : ℕ) → Ring m s size → (t : Pt) → ¬ (t ≡ place m (m.origin s))
    → (i : ℕ) × (i < size) × (pos 0 ≤ℤ S (place m (m.origin s)) (tip m s i) t) × (pos 0 <ℤ S (place m (m.origin s)) t (tip m s (suc i)))

-- on the hull, from the first spoke after the outer one: last is the number of the outer spoke
pub record Fan (m : Links) (s last : ℕ) : Type 0 where
  pub some : 0 < last
  pub outer : m.face (spoke m s last) ≡ 0
  pub inner : (i : ℕ) → i < last → 0 < m.face (spoke m s i)
  pub incoming : m.face (rev s) ≡ 0
  pub passes : m.next (rev s) ≡ spoke m s last
  pub first_side : (v : ℕ) → v < m.n → pos 0 ≤ℤ S (place m (m.origin s)) (tip m s 0) (place m v)
  pub last_side : (v : ℕ) → v < m.n → pos 0 ≤ℤ S (place m (m.origin s)) (place m v) (tip m s last)
  pub turns : (i : ℕ) → i < last → pos 0 <ℤ S (place m (m.origin s)) (tip m s i) (tip m s (suc i))
  pub left : (i j : ℕ) → i < j → j ≤ last → (0 < i) ⊎ (j < last) → pos 0 <ℤ S (place m (m.origin s)) (tip m s i) (tip m s j)
  pub sector : (v : ℕ) → v < m.n → (i : ℕ) × (i < last) × (pos 0 ≤ℤ S (place m (m.origin s)) (tip m s i) (place m v)) × (pos 0 ≤ℤ S (place m (m.origin s)) (place m v) (tip m s (suc i)))

-- an entry with an outer spoke: its spokes are a fan that has every entry in it
abbrev pub Fans : Type 0
Fans = (m : Links) → Sound m → 1 < m.f → (z : ℕ) → z < halves m → m.face z ≡ 0 → (last : ℕ) × Ring m (ccw m z) (suc last) × Fan m (ccw m z) last

-- between the two outer edges of an entry of the hull lie all entries: left of the edge after the outer spoke z, right of z
abbrev pub Wedge : Type 0
Wedge =
    (m : Links) → Sound m → 1 < m.f → (z : ℕ) → z < halves m → m.face z ≡ 0 → (v : ℕ) → v < m.n
    → (pos 0 ≤ℤ S (place m (m.origin z)) (place m (to m (ccw m z))) (place m v)) × (S (place m (m.origin z)) (place m (to m z)) (place m v) ≤ℤ pos 0)

-- without an inner face all entries are on one line
abbrev pub OneLine : Type 0
OneLine = (m : Links) → Sound m → m.f ≡ 1 → (h v : ℕ) → h < halves m → v < m.n → S (place m (m.origin h)) (place m (to m h)) (place m v) ≡ pos 0

-- and an entry has two spokes at most
abbrev pub TwoSpokes : Type 0
TwoSpokes = (m : Links) → Sound m → m.f ≡ 1 → (s : ℕ) → s < halves m → (size : ℕ) → Ring m s size → size ≤ 2

-- from the half s on, next goes once along all edges, from one entry to the next, and comes back the same way
pub record Path (m : Links) (s : ℕ) : Type 0 where
  pub start : s < halves m
  pub differ : (i j : ℕ) → i < j → j ≤ m.e → ¬ (m.origin (walk m.next i s) ≡ m.origin (walk m.next j s))
  pub every : (v : ℕ) → v < m.n → (i : ℕ) × (i ≤ m.e) × (m.origin (walk m.next i s) ≡ v)
  pub back : (i : ℕ) → i < halves m → rev (walk m.next i s) ≡ walk m.next (halves m - suc i) s
  pub closed : walk m.next (halves m) s ≡ s

-- and so the edges are a path
abbrev pub OnePath : Type 0
OnePath = (m : Links) → Sound m → m.f ≡ 1 → 2 ≤ m.n → (s : ℕ) × Path m s

-- the two edges of an entry in the midst of a line, taken as one: no other entry is on it but theirs, and no edge joins its ends yet
pub record Joins (m : Links) (h k : ℕ) : Type 0 where
  pub level : (v : ℕ) → v < m.n → S (place m (to m h)) (place m (to m k)) (place m v) ≡ pos 0
  pub clear : (v : ℕ) → v < m.n → On (place m (to m h)) (place m (to m k)) (place m v) → (v ≡ to m h) ⊎ ((v ≡ to m k) ⊎ (v ≡ m.origin h))
  pub single : (g : ℕ) → g < halves m → m.origin g ≡ to m h → to m g ≡ to m k → ⊥

-- so of any two spokes of an entry on a line
abbrev pub JoinedLine : Type 0
JoinedLine = (m : Links) → Sound m → m.f ≡ 1 → (h k : ℕ) → h < halves m → k < halves m → m.origin h ≡ m.origin k → ¬ (h ≡ k) → Joins m h k
