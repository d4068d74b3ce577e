-- Faces and places over live entries V and edges E, by halves, so that it does not matter which half a root names.
use Rattle.std.specs.Prelude.{◌≡◌, ℕ, ◌/◌, ◌≢◌, ◌⊎◌, pos, ◌≤ℤ◌, ◌<ℤ◌}
use Rattle.plane.specs.Plane.{S, C}
use Rattle.links.specs.Links.{Links, to, place}
use Rattle.links.specs.Rules.{On, corner0, corner1, corner2}

-- rules 5, 7 and 8, that places differ, and that outer halves with the same ends are one
pub record Shaped (L : Links) (V E : ℕ → Type 0) : Type 0 where
  pub three : (h : ℕ) → E (h / 2) → L.face h ≢ 0 → (L.next h ≢ h) × (L.next (L.next (L.next h)) ≡ h)
  pub left : (h : ℕ) → E (h / 2) → L.face h ≢ 0 → pos 0 <ℤ S (corner0 L h) (corner1 L h) (corner2 L h)
  pub empty : (h v : ℕ) → E (h / 2) → V v → L.face h ≢ 0 → C (corner0 L h) (corner1 L h) (corner2 L h) (place L v) ≤ℤ pos 0
  pub right : (h v : ℕ) → E (h / 2) → V v → L.face h ≡ 0 → S (place L (L.origin h)) (place L (to L h)) (place L v) ≤ℤ pos 0
  pub places : (u v : ℕ) → V u → V v → place L u ≡ place L v → u ≡ v
  pub only : (h k : ℕ) → E (h / 2) → E (k / 2) → L.face h ≡ 0 → L.face k ≡ 0 → L.origin h ≡ L.origin k → to L h ≡ to L k → h ≡ k

-- rule 6
pub record Ruled (L : Links) (V E : ℕ → Type 0) : Type 0 where
  pub apart : (h : ℕ) → E (h / 2) → place L (L.origin h) ≢ place L (to L h)
  pub single : (h k : ℕ) → E (h / 2) → E (k / 2) → L.origin h ≡ L.origin k → to L h ≡ to L k → h ≡ k
  pub clear : (h v : ℕ) → E (h / 2) → V v → On (place L (L.origin h)) (place L (to L h)) (place L v) → (v ≡ L.origin h) ⊎ (v ≡ to L h)
