-- Two halves of a face are cut off by a new edge: the links before and after.
use Rattle.std.specs.Prelude.{◌≡◌, ℕ, ◌/◌, ◌≢◌, ◌⊎◌}
use Rattle.links.specs.Links.{Links, rev}

-- a new edge e, t closes the triangle i, o, e, and t takes the place of i, o; p leads to i, n follows o
pub record Ear (L L' : Links) (V E F E' F' : ℕ → Type 0) (e t i o p n new : ℕ) : Type 0 where
  pub li : E (i / 2)
  pub at_i : L.next i ≡ o
  pub at_p : L.prev i ≡ p
  pub at_o : L.next o ≡ n
  pub wide : L.origin i ≢ L.origin n
  pub inner : L.face i ≢ 0
  -- the new edge and face
  pub et : rev e ≡ t
  pub te : rev t ≡ e
  pub fresh : E (e / 2) → ⊥
  pub fresh_t : E (t / 2) → ⊥
  pub fresh_face : F new → ⊥
  pub le : E' (e / 2)
  pub lt : E' (t / 2)
  pub keep : (x : ℕ) → E (x / 2) → E' (x / 2)
  pub half : (x : ℕ) → E' (x / 2) → (x ≡ e) ⊎ ((x ≡ t) ⊎ E (x / 2))
  pub keep_face : (g : ℕ) → F g → F' g
  pub new_face : F' new
  -- the links after
  pub next_e : L'.next e ≡ i
  pub next_t : L'.next t ≡ n
  pub next_o : L'.next o ≡ e
  pub next_p : L'.next p ≡ t
  pub next_else : (x : ℕ) → E (x / 2) → x ≢ o → x ≢ p → L'.next x ≡ L.next x
  pub prev_e : L'.prev e ≡ o
  pub prev_t : L'.prev t ≡ p
  pub prev_i : L'.prev i ≡ e
  pub prev_n : L'.prev n ≡ t
  pub prev_else : (x : ℕ) → E (x / 2) → x ≢ i → x ≢ n → L'.prev x ≡ L.prev x
  pub face_e : L'.face e ≡ new
  pub face_t : L'.face t ≡ L.face i
  pub face_i : L'.face i ≡ new
  pub face_o : L'.face o ≡ new
  pub face_else : (x : ℕ) → E (x / 2) → x ≢ i → x ≢ o → L'.face x ≡ L.face x
  pub origin_e : L'.origin e ≡ L.origin n
  pub origin_t : L'.origin t ≡ L.origin i
  pub origin_else : (x : ℕ) → E (x / 2) → L'.origin x ≡ L.origin x
  -- the roots after
  pub out_live : (v : ℕ) → V v → E' (L'.out v / 2)
  pub out_origin : (v : ℕ) → V v → L'.origin (L'.out v) ≡ v
  pub adj_live : (g : ℕ) → F' g → E' (L'.adj g / 2)
  pub adj_face : (g : ℕ) → F' g → L'.face (L'.adj g) ≡ g
