-- Parts of the rules, each at every record.
use Rattle.std.specs.Prelude.{◌≡◌, ◌⊎◌, ℕ, ◌<◌}
use Rattle.links.specs.Links.{Links, halves, to, place}
use Rattle.links.specs.Rules.{On, Named, IsHalfNamed, Rooted, Undone, Shared, Joined, Around, Along, Ended, Turned, Hulled, Empty}

module _ (m : Links) where
  -- links name existing records: rule 3
  pub record InRange : Type 0 where
    pub out_named : (v : ℕ) → v < m.n → Named m (m.out v)
    pub half_named : (h : ℕ) → h < halves m → IsHalfNamed m h
    pub adj_named : (k : ℕ) → k < m.f → Named m (m.adj k)
    pub out_rooted : (v : ℕ) → v < m.n → Rooted m (m.out v)
    pub adj_rooted : (k : ℕ) → k < m.f → Rooted m (m.adj k)

  -- the halves are cycles around entries and along faces: rule 4 but for its clauses on sides and counts
  pub record Woven : Type 0 where
    pub undone : (h : ℕ) → h < halves m → Undone m h
    pub shared : (h : ℕ) → h < halves m → Shared m h
    pub joined : (h : ℕ) → h < halves m → Joined m h
    pub around : (v : ℕ) → v < m.n → Around m v
    pub along : (k : ℕ) → k < m.f → Along m k
    pub ended : (k : ℕ) → k < m.e → Ended m k

  -- inner faces are triangles that turn left: rule 5
  abbrev pub CcwFaces : Type 0
  CcwFaces = (k : ℕ) → k < m.f → Turned m k

  -- no entry is left of an outer half: rule 7
  abbrev pub HullRule : Type 0
  HullRule = (h v : ℕ) → h < halves m → v < m.n → Hulled m h v

  -- no entry is inside the circle of an inner face: rule 8
  abbrev pub CircleRule : Type 0
  CircleRule = (k v : ℕ) → k < m.f → v < m.n → Empty m k v

  -- no entry lies on the segment of an outer half unless it is an end of it
  abbrev pub OuterClear : Type 0
  OuterClear =
      (h v : ℕ) → h < halves m → v < m.n → m.face h ≡ 0 → On (place m (m.origin h)) (place m (to m h)) (place m v)
      → (v ≡ m.origin h) ⊎ (v ≡ to m h)

  -- no two outer halves share both ends
  abbrev pub OuterOnly : Type 0
  OuterOnly = (h k : ℕ) → h < halves m → k < halves m → m.face h ≡ 0 → m.face k ≡ 0 → m.origin h ≡ m.origin k → to m h ≡ to m k → h ≡ k

  -- no two entries are at one place
  abbrev pub Places : Type 0
  Places = (u v : ℕ) → u < m.n → v < m.n → place m u ≡ place m v → u ≡ v

  -- the ends of each half are at different places
  abbrev pub Long : Type 0
  Long = (h : ℕ) → h < halves m → ¬ (place m (m.origin h) ≡ place m (to m h))
