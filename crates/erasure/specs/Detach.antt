-- An entry v is cut off: its spokes are passed over, and the faces about it become one, the hole.
-- (What dcel_operations::disconnect_edge_strip writes on the hull, with the outer face as the hole; inside, the ring of border halves that remesh_edge_ring fills.)
use Rattle.std.specs.Prelude.{ℕ, cond, List, [], ◌∷◌, ◌==◌}
use Rattle.links.specs.Links.{Links, rev, to}
use Rattle.surgery.specs.Update.{upd}
use Rattle.surgery.specs.Sound.{star_of}

-- the half after h, and the one before it, if v were not there
abbrev pub next_past : Links → ℕ → ℕ → ℕ
next_past L v h = cond (to L (L.next h) == v) (L.next (rev (L.next h))) (L.next h)

abbrev pub prev_past : Links → ℕ → ℕ → ℕ
prev_past L v h = cond (L.origin (L.prev h) == v) (L.prev (rev (L.prev h))) (L.prev h)

-- each half of the list becomes the out_edge of its origin
abbrev pub leading : (ℕ → ℕ) → (ℕ → ℕ) → List ℕ → ℕ → ℕ
leading origin out [] = out
leading origin out (b ∷ l) = leading origin (upd out (origin b) b) l

-- border lists the halves across from v, which the hole takes over; root is the one that the hole names
unfoldable pub detach : Links → ℕ → ℕ → List ℕ → ℕ → Links
detach L v hole border root = record {
  n = L.n;
  e = L.e;
  f = L.f;
  x = L.x;
  y = L.y;
  out = leading L.origin L.out border;
  adj = upd L.adj hole root;
  next = next_past L v;
  prev = prev_past L v;
  face = λ h. cond (star_of L v (L.face h)) hole (L.face h);
  origin = L.origin;
}
