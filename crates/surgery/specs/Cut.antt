-- An entry is cut out: its spokes and itself die, and the faces about it become one.
use Rattle.std.specs.Prelude.{◌≡◌, ℕ, ◌/◌, Bool, true, false, ◌≢◌, ◌⊎◌}
use Rattle.links.specs.Links.{Links, rev}

-- star tells the faces about v, and spoke names a half out of v in each
pub record Spoked (L : Links) (E : ℕ → Type 0) (v : ℕ) (star : ℕ → Bool) (spoke : ℕ → ℕ) : Type 0 where
  pub starred : (h : ℕ) → E (h / 2) → L.origin h ≡ v → star (L.face h) ≡ true
  pub spoke_live : (h : ℕ) → E (h / 2) → star (L.face h) ≡ true → E (spoke (L.face h) / 2)
  pub spoke_from : (h : ℕ) → E (h / 2) → star (L.face h) ≡ true → L.origin (spoke (L.face h)) ≡ v
  pub spoke_face : (h : ℕ) → E (h / 2) → star (L.face h) ≡ true → L.face (spoke (L.face h)) ≡ L.face h
  -- a face has one spoke, and more than two halves
  pub lone : (h k : ℕ) → E (h / 2) → E (k / 2) → L.origin h ≡ v → L.origin k ≡ v → L.face h ≡ L.face k → h ≡ k
  pub thick : (h : ℕ) → E (h / 2) → L.origin h ≡ v → L.origin (rev (L.next h)) ≢ v

-- v is the entry, hole is the face that takes the place of those about it
pub record Cut (L L' : Links) (V E F V' E' F' : ℕ → Type 0) (v hole : ℕ) (star : ℕ → Bool) (spoke : ℕ → ℕ) : Type 0 where
  -- what lives
  pub entry : (p : ℕ) → V' p → V p × (p ≢ v)
  pub entry' : (p : ℕ) → V p → p ≢ v → V' p
  pub half : (h : ℕ) → E' (h / 2) → E (h / 2) × (L.origin h ≢ v) × (L.origin (rev h) ≢ v)
  pub half' : (h : ℕ) → E (h / 2) → L.origin h ≢ v → L.origin (rev h) ≢ v → E' (h / 2)
  pub inner : (g : ℕ) → F' g → (F g × (star g ≡ false)) ⊎ (g ≡ hole)
  pub inner' : (g : ℕ) → F g → star g ≡ false → F' g
  pub hole' : F' hole
  pub hole_new : F hole → star hole ≡ true
  pub star_at : Spoked L E v star spoke
  -- the links after
  pub next_far : (h : ℕ) → E' (h / 2) → L.origin (rev (L.next h)) ≢ v → L'.next h ≡ L.next h
  pub next_near : (h : ℕ) → E' (h / 2) → L.origin (rev (L.next h)) ≡ v → L'.next h ≡ L.next (rev (L.next h))
  pub prev_far : (h : ℕ) → E' (h / 2) → L.origin (L.prev h) ≢ v → L'.prev h ≡ L.prev h
  pub prev_near : (h : ℕ) → E' (h / 2) → L.origin (L.prev h) ≡ v → L'.prev h ≡ L.prev (rev (L.prev h))
  pub face_star : (h : ℕ) → E' (h / 2) → star (L.face h) ≡ true → L'.face h ≡ hole
  pub face_else : (h : ℕ) → E' (h / 2) → star (L.face h) ≡ false → L'.face h ≡ L.face h
  pub origins : (h : ℕ) → E' (h / 2) → L'.origin h ≡ L.origin h
  -- the roots after
  pub out_live : (p : ℕ) → V' p → E' (L'.out p / 2)
  pub out_origin : (p : ℕ) → V' p → L'.origin (L'.out p) ≡ p
  pub adj_live : (g : ℕ) → F' g → E' (L'.adj g / 2)
  pub adj_face : (g : ℕ) → F' g → L'.face (L'.adj g) ≡ g
  pub before : (g : ℕ) → F' g → g ≢ 0 → (i : ℕ) × (F i × (i ≢ 0))
  -- where an inner face is left, no edge has both its halves in the hole
  pub walls : (g h : ℕ) → F' g → g ≢ 0 → E' (h / 2) → star (L.face h) ≡ true → star (L.face (rev h)) ≢ true
