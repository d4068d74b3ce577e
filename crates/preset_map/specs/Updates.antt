-- A write of a draft is an update of one record's links, and of nothing else.
use Rattle.std.specs.Prelude.{◌≡◌, ℕ, ◌*◌, ◌<◌, ◌≤◌, cond, List, length, ◌==◌}
use Rattle.links.specs.declared.shape.Shape.{Shape}
use Rattle.links.specs.Links.{Links}
use Rattle.links.specs.Tables.{held, size}
use Rattle.preset_map.specs.Filling.{with_out, with_half, with_face}

-- a function changed at one number
abbrev pub upd : (ℕ → ℕ) → ℕ → ℕ → ℕ → ℕ
upd f i v k = cond (k == i) v (f k)

abbrev pub set_out : Links → ℕ → ℕ → Links
set_out m v h = record { n = m.n; e = m.e; f = m.f; x = m.x; y = m.y; out = upd m.out v h; adj = m.adj; next = m.next; prev = m.prev; face = m.face; origin = m.origin }

abbrev pub set_adj : Links → ℕ → ℕ → Links
set_adj m k h = record { n = m.n; e = m.e; f = m.f; x = m.x; y = m.y; out = m.out; adj = upd m.adj k h; next = m.next; prev = m.prev; face = m.face; origin = m.origin }

abbrev pub set_half_links : Links → ℕ → ℕ → ℕ → ℕ → ℕ → Links
set_half_links m h a b c d = record {
  n = m.n;
  e = m.e;
  f = m.f;
  x = m.x;
  y = m.y;
  out = m.out;
  adj = m.adj;
  next = upd m.next h a;
  prev = upd m.prev h b;
  face = upd m.face h c;
  origin = upd m.origin h d;
}

-- where the slice holds the tables, and the record lies in its table
abbrev pub WritesUpdate : Type 0
WritesUpdate =
    (w : List ℕ) (s : Shape) → size s ≤ length w
    → ((v h : ℕ) → v < s.entries → held (with_out w v h) s ≡ set_out (held w s) v h)
    × ((h a b c d : ℕ) → h < 2 * s.edges → held (with_half w s h a b c d) s ≡ set_half_links (held w s) h a b c d)
    × ((k h : ℕ) → k < s.faces → held (with_face w s k h) s ≡ set_adj (held w s) k h)
