-- The link rules over live entries V, edges E and faces F.
use Rattle.std.specs.Prelude.{◌≡◌, ℕ, ◌/◌, ◌≢◌}
use Rattle.links.specs.Links.{Links, rev, to, ccw, Reached}

-- rules 3 and 4 at what lives
pub record Linked (L : Links) (V E F : ℕ → Type 0) : Type 0 where
  -- 3.1 links name live records
  pub out_live : (v : ℕ) → V v → E (L.out v / 2)
  pub next_live : (h : ℕ) → E (h / 2) → E (L.next h / 2)
  pub prev_live : (h : ℕ) → E (h / 2) → E (L.prev h / 2)
  pub face_live : (h : ℕ) → E (h / 2) → F (L.face h)
  pub origin_live : (h : ℕ) → E (h / 2) → V (L.origin h)
  pub adj_live : (g : ℕ) → F g → E (L.adj g / 2)
  -- 4.1 next and prev undo each other
  pub prev_next : (h : ℕ) → E (h / 2) → L.prev (L.next h) ≡ h
  pub next_prev : (h : ℕ) → E (h / 2) → L.next (L.prev h) ≡ h
  -- 4.2 a half and its next share the face
  pub face_next : (h : ℕ) → E (h / 2) → L.face (L.next h) ≡ L.face h
  -- 4.3 its to is the origin of its next
  pub to_next : (h : ℕ) → E (h / 2) → L.origin (L.next h) ≡ to L h
  -- 4.4 the halves of an entry are one ccw cycle from its out_edge, those of a face one next cycle from its adjacent_edge
  pub out_origin : (v : ℕ) → V v → L.origin (L.out v) ≡ v
  pub around : (v h : ℕ) → V v → E (h / 2) → L.origin h ≡ v → Reached (ccw L) (L.out v) h
  pub adj_face : (g : ℕ) → F g → L.face (L.adj g) ≡ g
  pub along : (g h : ℕ) → F g → E (h / 2) → L.face h ≡ g → Reached L.next (L.adj g) h
  -- 4.5 where there is an inner face, an edge's halves lie in different faces
  pub sides : (g h : ℕ) → F g → g ≢ 0 → E (h / 2) → L.face h ≢ L.face (rev h)
  -- 4.6 an edge's ends differ
  pub ends : (h : ℕ) → E (h / 2) → L.origin h ≢ to L h
