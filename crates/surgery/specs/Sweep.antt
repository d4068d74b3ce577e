-- Removal of records from the highest number down (dcel_operations::cleanup_isolated_vertex), and of an entry.
use Rattle.std.specs.Prelude.{◌≡◌, ℕ, zero, suc, pred, ◌<◌, Bool, true, false, ◌≢◌, ◌==◌}
use Rattle.links.specs.Links.{Links}
use Rattle.surgery.specs.Removal.{move_edge, move_face, move_entry}

-- the same links with other counts
abbrev pub counted : ℕ → ℕ → ℕ → Links → Links
counted n e f L = record {
  n = n;
  e = e;
  f = f;
  x = L.x;
  y = L.y;
  out = L.out;
  adj = L.adj;
  next = L.next;
  prev = L.prev;
  face = L.face;
  origin = L.origin;
}

-- the last record takes the number of the removed one, unless that is the last (swap_remove_undirected_edge, swap_remove_face, swap_remove_vertex)
abbrev pub swap_remove_edge : ℕ → Links → Links
swap_remove_edge k L = elim (suc k == L.e) [ true ↦ counted L.n k L.f L | false ↦ move_edge (pred L.e) k L ]

abbrev pub swap_remove_face : ℕ → Links → Links
swap_remove_face g L = elim (suc g == L.f) [ true ↦ counted L.n L.e g L | false ↦ move_face (pred L.f) g L ]

abbrev pub swap_remove_entry : ℕ → Links → Links
swap_remove_entry v L = elim (suc v == L.n) [ true ↦ counted v L.e L.f L | false ↦ move_entry (pred L.n) v L ]

-- of the numbers below k, those that are dead are removed, the highest first
abbrev pub sweep : (ℕ → Links → Links) → (ℕ → Bool) → ℕ → Links → Links
sweep remove dead zero L = L
sweep remove dead (suc k) L = sweep remove dead k (elim (dead k) [ true ↦ remove k L | false ↦ L ])

-- first the edges, then the faces
abbrev pub cleanup : (ℕ → Bool) → (ℕ → Bool) → Links → Links
cleanup edge face L = let K = sweep swap_remove_edge edge L.e L in sweep swap_remove_face face K.f K

-- below the count, and not dead
abbrev pub Staying : ℕ → (ℕ → Bool) → ℕ → Type 0
Staying count dead k = (k < count) × (dead k ≡ false)

-- how many numbers below k are dead
abbrev pub number : (ℕ → Bool) → ℕ → ℕ
number dead zero = 0
number dead (suc k) = elim (dead k) [ true ↦ suc (number dead k) | false ↦ number dead k ]

-- below the count, and not v
abbrev pub Others : ℕ → ℕ → ℕ → Type 0
Others count v w = (w < count) × (w ≢ v)
