-- The rules of a sound map over its links, one clause a definition: what is asked of one record, or of a pair. `Sound` asks it of all.
use Rattle.std.specs.Prelude.{◌≡◌, ℕ, ◌+◌, ◌*◌, ◌<◌, ◌≤◌, ◌⊎◌, ◌↔◌, pos, ◌≤ℤ◌, ◌<ℤ◌}
use Rattle.plane.specs.Plane.{Pt, S, C, dot}
use Rattle.links.specs.Links.{Links, none, halves, to, ccw, place, Reached}

-- q lies on the segment from a to b, ends included
abbrev pub On : Pt → Pt → Pt → Type 0
On a b q = (S a b q ≡ pos 0) × (dot q a b ≤ℤ pos 0)

-- a link that leads to a record
abbrev pub Present : ℕ → Type 0
Present i = ¬ (i ≡ none)

module _ (m : Links) where
  -- 1.1 n is at most 4096, e at most 12288, f from 1 to 8192
  abbrev pub Counted : Type 0
  Counted = (m.n ≤ 4096) × (m.e ≤ 12288) × (1 ≤ m.f) × (m.f ≤ 8192)

  -- 2.1 every entry has a place: two whole numbers 0 to 16383
  abbrev pub Placed : ℕ → Type 0
  Placed v = (m.x v ≤ 16383) × (m.y v ≤ 16383)

  -- 3.1 links name existing records
  abbrev pub Named : ℕ → Type 0
  Named i = Present i → i < halves m

  abbrev pub IsHalfNamed : ℕ → Type 0
  IsHalfNamed h = (m.next h < halves m) × (m.prev h < halves m) × (m.face h < m.f) × (m.origin h < m.n)

  -- 3.2 out_edge and adjacent_edge are present exactly if n is 2 or more
  abbrev pub Rooted : ℕ → Type 0
  Rooted i = Present i ↔ (2 ≤ m.n)

  -- 4.1 next and prev undo each other
  abbrev pub Undone : ℕ → Type 0
  Undone h = (m.prev (m.next h) ≡ h) × (m.next (m.prev h) ≡ h)

  -- 4.2 a half and its next share the face
  abbrev pub Shared : ℕ → Type 0
  Shared h = m.face (m.next h) ≡ m.face h

  -- 4.3 its to is the origin of its next
  abbrev pub Joined : ℕ → Type 0
  Joined h = to m h ≡ m.origin (m.next h)

  -- the halves of which `owner` is k are one cycle of `step` from s, or there are none if s is none
  abbrev pub Cycle : (ℕ → ℕ) → (ℕ → ℕ) → ℕ → ℕ → Type 0
  Cycle step owner k s = (Present s → owner s ≡ k) × ((h : ℕ) → h < halves m → owner h ≡ k → Present s × Reached step s h)

  -- 4.4 the halves with one origin are one ccw cycle from its out_edge
  abbrev pub Around : ℕ → Type 0
  Around v = Cycle (ccw m) m.origin v (m.out v)

  -- and the halves of one face one next cycle from its adjacent_edge
  abbrev pub Along : ℕ → Type 0
  Along k = Cycle m.next m.face k (m.adj k)

  -- 4.5 if f > 1, an edge's halves lie in different faces
  abbrev pub Parted : ℕ → Type 0
  Parted k = 1 < m.f → ¬ (m.face (2 * k) ≡ m.face (2 * k + 1))

  -- 4.6 an edge's ends differ
  abbrev pub Ended : ℕ → Type 0
  Ended k = ¬ (m.origin (2 * k) ≡ m.origin (2 * k + 1))

  -- 4.7 n + f = e + 2, but for n = 0 it is e = 0, f = 1
  abbrev pub Euler : Type 0
  Euler = (m.n ≡ 0 → (m.e ≡ 0) × (m.f ≡ 1)) × (¬ (m.n ≡ 0) → m.n + m.f ≡ m.e + 2)

  -- the places of the origins of h and of the two halves after it
  abbrev pub corner0 : ℕ → Pt
  corner0 h = place m (m.origin h)

  abbrev pub corner1 : ℕ → Pt
  corner1 h = place m (m.origin (m.next h))

  abbrev pub corner2 : ℕ → Pt
  corner2 h = place m (m.origin (m.next (m.next h)))

  -- 5.1 an inner face has three halves, and S of their origins in next order is above 0 (its halves are the cycle of 4.4)
  abbrev pub Turned : ℕ → Type 0
  Turned k =
      ¬ (k ≡ 0) → (¬ (m.next (m.adj k) ≡ m.adj k)) × (m.next (m.next (m.next (m.adj k))) ≡ m.adj k)
      × (pos 0 <ℤ S (corner0 (m.adj k)) (corner1 (m.adj k)) (corner2 (m.adj k)))

  -- the ends of an edge, as places
  abbrev pub end0 : ℕ → Pt
  end0 k = place m (m.origin (2 * k))

  abbrev pub end1 : ℕ → Pt
  end1 k = place m (m.origin (2 * k + 1))

  -- 6.1 an edge's ends have different places
  abbrev pub Apart : ℕ → Type 0
  Apart k = ¬ ((m.x (m.origin (2 * k)) ≡ m.x (m.origin (2 * k + 1))) × (m.y (m.origin (2 * k)) ≡ m.y (m.origin (2 * k + 1))))

  -- two edges share both ends
  abbrev pub Twins : ℕ → ℕ → Type 0
  Twins k l =
      ((m.origin (2 * k) ≡ m.origin (2 * l)) × (m.origin (2 * k + 1) ≡ m.origin (2 * l + 1)))
      ⊎ ((m.origin (2 * k) ≡ m.origin (2 * l + 1)) × (m.origin (2 * k + 1) ≡ m.origin (2 * l)))

  -- 6.2 no two edges share both ends
  abbrev pub Single : ℕ → ℕ → Type 0
  Single k l = k < l → ¬ (Twins k l)

  -- 6.3 no entry lies on an edge's segment unless it is an end of it
  abbrev pub Clear : ℕ → ℕ → Type 0
  Clear k v = On (end0 k) (end1 k) (place m v) → (v ≡ m.origin (2 * k)) ⊎ (v ≡ m.origin (2 * k + 1))

  -- 7.1 no entry is strictly left of a half in face 0
  abbrev pub Hulled : ℕ → ℕ → Type 0
  Hulled h v = m.face h ≡ 0 → S (place m (m.origin h)) (place m (to m h)) (place m v) ≤ℤ pos 0

  -- 8.1 no entry is strictly inside the circle of an inner face
  abbrev pub Empty : ℕ → ℕ → Type 0
  Empty k v = ¬ (k ≡ 0) → C (corner0 (m.adj k)) (corner1 (m.adj k)) (corner2 (m.adj k)) (place m v) ≤ℤ pos 0

  -- a sound map: every clause of its links and places, at every record
  pub record Sound : Type 0 where
    pub counted : Counted
    pub placed : (v : ℕ) → v < m.n → Placed v
    pub out_named : (v : ℕ) → v < m.n → Named (m.out v)
    pub half_named : (h : ℕ) → h < halves m → IsHalfNamed h
    pub adj_named : (k : ℕ) → k < m.f → Named (m.adj k)
    pub out_rooted : (v : ℕ) → v < m.n → Rooted (m.out v)
    pub adj_rooted : (k : ℕ) → k < m.f → Rooted (m.adj k)
    pub undone : (h : ℕ) → h < halves m → Undone h
    pub shared : (h : ℕ) → h < halves m → Shared h
    pub joined : (h : ℕ) → h < halves m → Joined h
    pub around : (v : ℕ) → v < m.n → Around v
    pub along : (k : ℕ) → k < m.f → Along k
    pub parted : (k : ℕ) → k < m.e → Parted k
    pub ended : (k : ℕ) → k < m.e → Ended k
    pub euler : Euler
    pub turned : (k : ℕ) → k < m.f → Turned k
    pub apart : (k : ℕ) → k < m.e → Apart k
    pub single : (k l : ℕ) → k < m.e → l < m.e → Single k l
    pub clear : (k v : ℕ) → k < m.e → v < m.n → Clear k v
    pub hulled : (h v : ℕ) → h < halves m → v < m.n → Hulled h v
    pub empty : (k v : ℕ) → k < m.f → v < m.n → Empty k v
