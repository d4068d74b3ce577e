-- A map among whose records some are dead, and the map of the live ones under new numbers.
use Rattle.std.specs.Prelude.{◌≡◌, Bool, ℕ, ◌≤◌, ◌<◌, T, pos, ◌≤ℤ◌, ◌<ℤ◌}
use Rattle.plane.specs.Plane.{S, C}
use Rattle.links.specs.Links.{Links, rev, halves, to, ccw, place, Reached}
use Rattle.links.specs.Rules.{Undone, Shared, Joined, corner0, corner1, corner2}
use Rattle.planar.specs.Parts.{InRange, Woven, CcwFaces, HullRule, CircleRule, Places, OuterOnly}

-- the rules over the live entries, halves and faces
module _ (m : Links) (V H F : ℕ → Bool) where
  -- links
  pub record LiveLinks : Type 0 where
    pub undone : (h : ℕ) → T (H h) → Undone m h
    pub shares : (h : ℕ) → T (H h) → Shared m h
    pub joins : (h : ℕ) → T (H h) → Joined m h
    pub out_at : (v : ℕ) → T (V v) → m.origin (m.out v) ≡ v
    pub out_cycle : (h : ℕ) → T (H h) → Reached (ccw m) (m.out (m.origin h)) h
    pub adj_at : (k : ℕ) → T (F k) → m.face (m.adj k) ≡ k
    pub adj_cycle : (h : ℕ) → T (H h) → Reached m.next (m.adj (m.face h)) h
    pub ends : (h : ℕ) → T (H h) → ¬ (m.origin h ≡ to m h)

  -- faces and places
  pub record LivePlaces : Type 0 where
    pub three : (k : ℕ) → 0 < k → T (F k) → (¬ (m.next (m.adj k) ≡ m.adj k)) × (m.next (m.next (m.next (m.adj k))) ≡ m.adj k)
    pub turns : (k : ℕ) → 0 < k → T (F k) → pos 0 <ℤ S (corner0 m (m.adj k)) (corner1 m (m.adj k)) (corner2 m (m.adj k))
    pub right : (h v : ℕ) → T (H h) → m.face h ≡ 0 → T (V v) → S (place m (m.origin h)) (place m (to m h)) (place m v) ≤ℤ pos 0
    pub round : (k v : ℕ) → 0 < k → T (F k) → T (V v) → C (corner0 m (m.adj k)) (corner1 m (m.adj k)) (corner2 m (m.adj k)) (place m v) ≤ℤ pos 0
    pub places : (u v : ℕ) → T (V u) → T (V v) → place m u ≡ place m v → u ≡ v
    pub only : (h k : ℕ) → T (H h) → T (H k) → m.face h ≡ 0 → m.face k ≡ 0 → m.origin h ≡ m.origin k → to m h ≡ to m k → h ≡ k

  -- where each record of m' stands in m: different records at different numbers, all live, the outer face at 0, with the same links and places
  pub record Moved (m' : Links) : Type 0 where
    pub entry : ℕ → ℕ
    pub half : ℕ → ℕ
    pub side : ℕ → ℕ
    pub entry_live : (v : ℕ) → v < m'.n → T (V (entry v))
    pub half_live : (h : ℕ) → h < halves m' → T (H (half h))
    pub side_live : (k : ℕ) → k < m'.f → T (F (side k))
    pub entry_only : (u v : ℕ) → u < m'.n → v < m'.n → entry u ≡ entry v → u ≡ v
    pub half_only : (h k : ℕ) → h < halves m' → k < halves m' → half h ≡ half k → h ≡ k
    pub side_only : (k l : ℕ) → k < m'.f → l < m'.f → side k ≡ side l → k ≡ l
    pub outer : side 0 ≡ 0
    pub revs : (h : ℕ) → h < halves m' → half (rev h) ≡ rev (half h)
    pub nexts : (h : ℕ) → h < halves m' → half (m'.next h) ≡ m.next (half h)
    pub prevs : (h : ℕ) → h < halves m' → half (m'.prev h) ≡ m.prev (half h)
    pub faces : (h : ℕ) → h < halves m' → side (m'.face h) ≡ m.face (half h)
    pub origins : (h : ℕ) → h < halves m' → entry (m'.origin h) ≡ m.origin (half h)
    pub outs : (v : ℕ) → v < m'.n → half (m'.out v) ≡ m.out (entry v)
    pub adjs : (k : ℕ) → k < m'.f → half (m'.adj k) ≡ m.adj (side k)
    pub at : (v : ℕ) → v < m'.n → place m' v ≡ place m (entry v)

-- what holds of the live records holds of the new map
pub record Kept (m : Links) : Type 0 where
  pub woven : Woven m
  pub ccw_faces : CcwFaces m
  pub hull_rule : HullRule m
  pub circle_rule : CircleRule m
  pub places : Places m
  pub outer_only : OuterOnly m

-- the rules do not see numbers
abbrev pub Renames : Type 0
Renames = (m m' : Links) (V H F : ℕ → Bool) → LiveLinks m V H F → LivePlaces m V H F → Moved m V H F m' → InRange m' → 2 ≤ m'.n → Kept m'
