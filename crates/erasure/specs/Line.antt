-- Entries without an inner face (dcel_operations::remove_when_degenerate and what it calls).
use Rattle.std.specs.Prelude.{ℕ, ◌/◌, true, false, cond, ◌==◌, nat_eq}
use Rattle.links.specs.Links.{Links, none, rev, to, ccw}
use Rattle.surgery.specs.Update.{upd}
use Rattle.surgery.specs.Sweep.{counted, swap_remove_edge, swap_remove_entry}

-- no edge is left, and no link
unfoldable pub unlinked : Links → Links
unlinked L = record {
  n = L.n;
  e = 0;
  f = L.f;
  x = L.x;
  y = L.y;
  out = upd L.out 0 none;
  adj = upd L.adj 0 none;
  next = L.next;
  prev = L.prev;
  face = L.face;
  origin = L.origin;
}

-- the end of the line, from which s leads: the line begins where s leads
unfoldable pub shorten : Links → ℕ → Links
shorten L s =
    let o = L.next s in
    record {
      n = L.n;
      e = L.e;
      f = L.f;
      x = L.x;
      y = L.y;
      out = upd L.out (to L s) o;
      adj = upd L.adj 0 o;
      next = upd L.next (rev o) o;
      prev = upd L.prev o (rev o);
      face = L.face;
      origin = L.origin;
    }

-- an entry amid the line, from which e1 and e2 lead: the edge of e1 goes on to where e2 leads
unfoldable pub straighten : Links → ℕ → ℕ → Links
straighten L e1 e2 =
    let t1 = rev e1 in
    let last = nat_eq (L.next e2) (rev e2) in
    let after = cond last e1 (L.next e2) in
    let before = cond last t1 (L.prev (rev e2)) in
    record {
      n = L.n;
      e = L.e;
      f = L.f;
      x = L.x;
      y = L.y;
      out = upd L.out (to L e2) e1;
      adj = upd L.adj 0 t1;
      next = upd (upd L.next t1 after) before e1;
      prev = upd (upd L.prev after t1) e1 before;
      face = L.face;
      origin = upd L.origin e1 (to L e2);
    }

abbrev pub remove_on_line : Links → ℕ → Links
remove_on_line m v =
    let s = m.out v in
    elim (ccw m s == s) [
      | true ↦ swap_remove_entry v (swap_remove_edge (s / 2) (shorten m s))
      | false ↦ swap_remove_edge (ccw m s / 2) (swap_remove_entry v (straighten m s (ccw m s)))
    ]

abbrev pub remove_when_degenerate : Links → ℕ → Links
remove_when_degenerate m v =
    elim (m.n == 1) [
      | true ↦ counted 0 m.e m.f m
      | false ↦ elim (m.n == 2) [ true ↦ unlinked (swap_remove_entry v m) | false ↦ remove_on_line m v ]
    ]
