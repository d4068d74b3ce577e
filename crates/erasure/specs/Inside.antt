-- The hole of an entry that is not on the hull: what lies in it, what lives, and what its filling gives.
use Rattle.std.specs.Prelude.{◌≡◌, ℕ, suc, ◌+◌, ◌-◌, ◌*◌, ◌/◌, ◌<◌, ◌≤◌, Bool, false, not, ◌&&◌, ◌||◌, ltb, ◌==◌, nat_le, nat_lt}
use Rattle.links.specs.Links.{Links, halves, to, place}
use Rattle.links.specs.Rules.{Sound}
use Rattle.planar.specs.Star.{spoke, tip, Ring, Inner}
use Rattle.delaunay.specs.Start.{index}
use Rattle.surgery.specs.Sound.{star_of}
use Rattle.erasure.specs.Spokes.{degree, spoked}
use Rattle.erasure.specs.Fill.{new_edges}
use Rattle.erasure.specs.Region.{Hole, Region, Listed, Fenced, Voluminous}
use Rattle.erasure.specs.Erased.{filled}

-- b comes after a on a ring of k
abbrev pub next_on : ℕ → ℕ → ℕ → Bool
next_on k a b = suc a == b || (suc a == k && b == 0)

module _ (m : Links) (v : ℕ) where
  abbrev pub spokes : ℕ
  spokes = degree m (m.out v)

  -- edges that end at v
  abbrev pub dead_edge : ℕ → Bool
  dead_edge k = nat_lt k m.e && spoked m v k

  -- the hole: the halves across from v, and those of the new edges
  abbrev pub inner_hole : Hole
  inner_hole = record {
    o = place m v;
    p = tip m (m.out v);
    size = spokes;
    lab = index (λ i. to m (spoke m (m.out v) i)) spokes;
    border = next_on spokes;
    inside = λ h.
        (nat_lt h (halves m) && star_of m v (m.face h) && not (dead_edge (h / 2)))
        || (nat_le (halves m) h && nat_lt h (2 * (m.e + (spokes - 3))));
    entries = λ w. nat_lt w m.n && not (w == v);
    edges = λ k. nat_lt k (m.e + (spokes - 3)) && not (dead_edge k);
    faces = λ g. nat_lt g (m.f + (spokes - 2)) && not (star_of m v g);
    turning = false;
  }

  -- what L has of m: places, and every half that is neither in the hole nor a spoke
  pub record AroundHole (L : Links) : Type 0 where
    pub ring : Ring m (m.out v) spokes
    pub three : 3 ≤ spokes
    pub n : L.n ≡ m.n
    pub e : L.e ≡ m.e + (spokes - 3)
    pub f : L.f ≡ m.f + (spokes - 2)
    pub x : (w : ℕ) → L.x w ≡ m.x w
    pub y : (w : ℕ) → L.y w ≡ m.y w
    pub next : (h : ℕ) → h < halves m → dead_edge (h / 2) ≡ false → star_of m v (m.face h) ≡ false → L.next h ≡ m.next h
    pub face : (h : ℕ) → h < halves m → dead_edge (h / 2) ≡ false → star_of m v (m.face h) ≡ false → L.face h ≡ m.face h
    pub origin : (h : ℕ) → h < halves m → dead_edge (h / 2) ≡ false → star_of m v (m.face h) ≡ false → L.origin h ≡ m.origin h

-- an entry inside leaves a hole, which the fan fills
abbrev pub Fills : Type 0
Fills =
    (m : Links) → Sound m → 1 < m.f → (v : ℕ) → v < m.n → Inner m v
    → Region (inner_hole m v) (filled m v) × Listed (inner_hole m v) (filled m v) (new_edges m.e (spokes m v - 3))
    × Fenced (inner_hole m v) (filled m v) (λ k. ltb k m.e) × Voluminous (inner_hole m v) × AroundHole m v (filled m v)
