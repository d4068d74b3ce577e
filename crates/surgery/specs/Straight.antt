-- The middle entry of a line goes, and one of its two edges with it.
use Rattle.std.specs.Prelude.{◌≡◌, ℕ, ◌/◌, ◌≢◌, ◌⊎◌}
use Rattle.links.specs.Links.{Links, rev}

-- where the line ends after e2: a is r2 and y is e2
pub record Ends (a y e1 t1 e2 r2 A Y : ℕ) : Type 0 where
  pub a_is : a ≡ r2
  pub y_is : y ≡ e2
  pub A-is : A ≡ e1
  pub Y-is : Y ≡ t1

-- where it goes on
pub record Goes (a y e2 r2 A Y : ℕ) : Type 0 where
  pub a_not : a ≢ r2
  pub y_not : y ≢ e2
  pub A-is : A ≡ a
  pub Y-is : Y ≡ y

-- v has the edges of e1 and e2; a follows e2 and y leads to r2
pub record Straight (L L' : Links) (V E F V' E' : ℕ → Type 0) (v e1 t1 e2 r2 a y A Y : ℕ) : Type 0 where
  pub le1 : E (e1 / 2)
  pub le2 : E (e2 / 2)
  pub et1 : rev e1 ≡ t1
  pub te1 : rev t1 ≡ e1
  pub er2 : rev e2 ≡ r2
  pub re2 : rev r2 ≡ e2
  pub from1 : L.origin e1 ≡ v
  pub from2 : L.origin e2 ≡ v
  pub only : (h : ℕ) → E (h / 2) → L.origin h ≡ v → (h ≡ e1) ⊎ (h ≡ e2)
  pub next_t1 : L.next t1 ≡ e2
  pub next_r2 : L.next r2 ≡ e1
  pub next_e2 : L.next e2 ≡ a
  pub prev_r2 : L.prev r2 ≡ y
  pub way : Ends a y e1 t1 e2 r2 A Y ⊎ Goes a y e2 r2 A Y
  pub apart : L.origin t1 ≢ L.origin r2
  -- what lives
  pub entry' : (p : ℕ) → V p → p ≢ v → V' p
  pub half : (h : ℕ) → E' (h / 2) → E (h / 2) × (h ≢ e2) × (h ≢ r2)
  pub half' : (h : ℕ) → E (h / 2) → h ≢ e2 → h ≢ r2 → E' (h / 2)
  -- the links after
  pub next_t1' : L'.next t1 ≡ A
  pub next_big_y : L'.next Y ≡ e1
  pub next_else : (x : ℕ) → E' (x / 2) → x ≢ t1 → x ≢ Y → L'.next x ≡ L.next x
  pub prev_big_a : L'.prev A ≡ t1
  pub prev_e1 : L'.prev e1 ≡ Y
  pub prev_else : (x : ℕ) → E' (x / 2) → x ≢ A → x ≢ e1 → L'.prev x ≡ L.prev x
  pub faces : (x : ℕ) → E' (x / 2) → L'.face x ≡ L.face x
  pub origin_e1 : L'.origin e1 ≡ L.origin r2
  pub origin_else : (x : ℕ) → E' (x / 2) → x ≢ e1 → L'.origin x ≡ L.origin x
  -- the roots after
  pub out_live : (p : ℕ) → V' p → E' (L'.out p / 2)
  pub out_origin : (p : ℕ) → V' p → L'.origin (L'.out p) ≡ p
  pub adj_live : (g : ℕ) → F g → E' (L'.adj g / 2)
  pub adj_face : (g : ℕ) → F g → L'.face (L'.adj g) ≡ g
