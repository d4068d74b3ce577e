-- One step of the fan of dcel_operations::remesh_edge_ring, on a hole that is a face: the halves i and its next are cut off by a new edge.
use Rattle.std.specs.Prelude.{◌≡◌, ℕ, suc, ◌+◌, ◌*◌, ◌⊎◌}
use Rattle.links.specs.Links.{Links}
use Rattle.surgery.specs.Update.{upd}

-- one number more
abbrev pub With : (ℕ → Type 0) → ℕ → ℕ → Type 0
With P m k = P k ⊎ (k ≡ m)

-- the links after the cut
unfoldable pub cut_ear : Links → ℕ → Links
cut_ear L i =
    let o = L.next i in
    let p = L.prev i in
    let n = L.next o in
    let e = 2 * L.e in
    let t = 2 * L.e + 1 in
    record {
      n = L.n;
      e = suc L.e;
      f = suc L.f;
      x = L.x;
      y = L.y;
      out = upd L.out (L.origin o) o;
      adj = upd (upd L.adj L.f e) (L.face i) t;
      next = upd (upd (upd (upd L.next o e) e i) t n) p t;
      prev = upd (upd (upd (upd L.prev i e) e o) t p) n t;
      face = upd (upd (upd (upd L.face i L.f) o L.f) e L.f) t (L.face i);
      origin = upd (upd L.origin e (L.origin n)) t (L.origin i);
    }
