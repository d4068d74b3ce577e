-- What an entry of a sound map offers to be cut out by.
use Rattle.std.specs.Prelude.{◌≡◌, ℕ, ◌/◌, ◌<◌, ◌≤◌, Bool, true, cond, ◌&&◌, ◌||◌, ◌≢◌, ◌⊎◌, ◌==◌, nat_eq, nat_lt}
use Rattle.links.specs.Links.{Links, rev, halves, to, ccw}
use Rattle.links.specs.Rules.{Sound}
use Rattle.planar.specs.Star.{Inner}
use Rattle.surgery.specs.Cut.{Spoked}

module _ (m : Links) (v : ℕ) where
  -- an inner face with the corner v
  abbrev pub star_of : ℕ → Bool
  star_of g =
      (nat_lt 0 g && nat_lt g m.f)
      && (m.origin (m.adj g) == v || (m.origin (m.next (m.adj g)) == v || m.origin (m.next (m.next (m.adj g))) == v))

  -- its half out of v
  abbrev pub spoke_of : ℕ → ℕ
  spoke_of g =
      cond (m.origin (m.adj g) == v) (m.adj g) (cond (m.origin (m.next (m.adj g)) == v) (m.next (m.adj g)) (m.next (m.next (m.adj g))))

-- an inner entry has one half in each face about it, and no other edge has two such faces
abbrev pub InnerSpoked : Type 0
InnerSpoked =
    (m : Links) → Sound m → (v : ℕ) → v < m.n → Inner m v
    → Spoked m (λ k. k < m.e) v (star_of m v) (spoke_of m v)
    × ((h : ℕ) → h / 2 < m.e → m.origin h ≢ v → to m h ≢ v → star_of m v (m.face h) ≡ true → star_of m v (m.face (rev h)) ≢ true)

-- without an inner face: an entry with one spoke, at the end of the line
abbrev pub LineLeaf : Type 0
LineLeaf = (m : Links) → Sound m → m.f ≡ 1 → 3 ≤ m.n → (s : ℕ) → s < halves m → ccw m s ≡ s → Spoked m (λ k. k < m.e) (m.origin s) (λ g. nat_eq g 0) (λ _. s)

-- an entry with the two spokes e1 and e2, in the midst of it
pub record Middle (m : Links) (e1 e2 : ℕ) : Type 0 where
  pub from : m.origin e2 ≡ m.origin e1
  pub only : (h : ℕ) → h / 2 < m.e → m.origin h ≡ m.origin e1 → (h ≡ e1) ⊎ (h ≡ e2)
  pub next_1 : m.next (rev e1) ≡ e2
  pub next_2 : m.next (rev e2) ≡ e1
  pub apart : to m e1 ≢ to m e2
  -- the line ends after e2, or goes on
  pub way : ((m.next e2 ≡ rev e2) × (m.prev (rev e2) ≡ e2)) ⊎ ((m.next e2 ≢ rev e2) × (m.prev (rev e2) ≢ e2))

-- so is every entry with two spokes
abbrev pub LineMiddle : Type 0
LineMiddle = (m : Links) → Sound m → m.f ≡ 1 → (s : ℕ) → s < halves m → ccw m s ≢ s → Middle m s (ccw m s)
