-- The hole is filled with a fan (dcel_operations::remesh_edge_ring).
use Rattle.std.specs.Prelude.{ℕ, zero, suc, ◌+◌, ◌*◌, List, [], ◌∷◌}
use Rattle.links.specs.Links.{Links}
use Rattle.surgery.specs.Update.{upd}
use Rattle.surgery.specs.Fan.{cut_ear}

-- what is left of the hole is the last triangle, and i is its half
unfoldable pub last_triangle : Links → ℕ → Links
last_triangle L i = record {
  n = L.n;
  e = L.e;
  f = suc L.f;
  x = L.x;
  y = L.y;
  out = upd L.out (L.origin i) i;
  adj = upd L.adj (L.face i) i;
  next = L.next;
  prev = L.prev;
  face = L.face;
  origin = L.origin;
}

-- so many triangles are cut off, each at the half that the one before left, and then the last
abbrev pub remesh : ℕ → Links → ℕ → Links
remesh zero L i = last_triangle L i
remesh (suc j) L i = remesh j (cut_ear L i) (2 * L.e + 1)

-- the numbers from e on, the last of j first
abbrev pub new_edges : ℕ → ℕ → List ℕ
new_edges e zero = []
new_edges e (suc j) = (e + j) ∷ new_edges e j
