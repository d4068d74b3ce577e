-- Functional updates, and the flip of an edge as dcel_operations::flip_cw writes it.
use Rattle.std.specs.Prelude.{ℕ, true, false, ◌==◌}
use Rattle.links.specs.Links.{Links, rev}

-- g, but b at a
unfoldable pub upd : (ℕ → ℕ) → ℕ → ℕ → ℕ → ℕ
upd g a b x = elim (x == a) [ true ↦ b | false ↦ g x ]

-- the edge of e turns clockwise to the other diagonal of its two triangles
unfoldable pub flip : Links → ℕ → Links
flip L e =
    let t = rev e in
    let en = L.next e in
    let ep = L.prev e in
    let tn = L.next t in
    let tp = L.prev t in
    let turned = upd L.origin e (L.origin ep) in
    record {
      n = L.n;
      e = L.e;
      f = L.f;
      x = L.x;
      y = L.y;
      out = upd (upd L.out (L.origin e) tn) (L.origin t) en;
      adj = upd (upd L.adj (L.face e) e) (L.face t) t;
      next = upd (upd (upd (upd (upd (upd L.next en e) e tp) tp en) tn t) t ep) ep tn;
      prev = upd (upd (upd (upd (upd (upd L.prev en tp) e en) tp e) tn ep) t tn) ep t;
      face = upd (upd L.face tp (L.face e)) ep (L.face t);
      origin = upd turned t (turned tp);
    }
