-- Removal of a dead record: the last record moves to its number (dcel_operations::swap_remove_undirected_edge, fix_handle_swap,
-- swap_remove_face, swap_remove_vertex).
use Rattle.std.specs.Prelude.{◌≡◌, ℕ, ◌+◌, ◌*◌, ◌≢◌, ◌⊎◌}
use Rattle.links.specs.Links.{Links}
use Rattle.surgery.specs.Update.{upd}

-- the live numbers after the last, m, was moved to d
abbrev pub Without : (ℕ → Type 0) → ℕ → ℕ → ℕ → Type 0
Without E m d k = ((k ≢ m) × E k) ⊎ (k ≡ d)

-- the new number of a half, where edge m has become edge d
unfoldable pub renumber : ℕ → ℕ → ℕ → ℕ
renumber m d = upd (upd (λ x. x) (2 * m) (2 * d)) (2 * m + 1) (2 * d + 1)

-- the links of edge m are copied to edge d, and m is the new count
unfoldable pub carry_edge : ℕ → ℕ → Links → Links
carry_edge m d L = record {
  n = L.n;
  e = m;
  f = L.f;
  x = L.x;
  y = L.y;
  out = L.out;
  adj = L.adj;
  next = upd (upd L.next (2 * d) (L.next (2 * m))) (2 * d + 1) (L.next (2 * m + 1));
  prev = upd (upd L.prev (2 * d) (L.prev (2 * m))) (2 * d + 1) (L.prev (2 * m + 1));
  face = upd (upd L.face (2 * d) (L.face (2 * m))) (2 * d + 1) (L.face (2 * m + 1));
  origin = upd (upd L.origin (2 * d) (L.origin (2 * m))) (2 * d + 1) (L.origin (2 * m + 1));
}

-- what named the old number of the half h names h
unfoldable pub fix_swap : ℕ → ℕ → ℕ → Links → Links
fix_swap m d h L = record {
  n = L.n;
  e = L.e;
  f = L.f;
  x = L.x;
  y = L.y;
  out = upd L.out (L.origin h) h;
  adj = upd L.adj (L.face h) h;
  next = upd L.next (renumber m d (L.prev h)) h;
  prev = upd L.prev (renumber m d (L.next h)) h;
  face = L.face;
  origin = L.origin;
}

-- where the last edge m takes the number d < m
unfoldable pub move_edge : ℕ → ℕ → Links → Links
move_edge m d L = fix_swap m d (2 * d) (fix_swap m d (2 * d + 1) (carry_edge m d L))

-- the last face m takes the number d of a dead inner face; it has three halves
unfoldable pub move_face : ℕ → ℕ → Links → Links
move_face m d L =
    let a = L.adj m in
    record {
      n = L.n;
      e = L.e;
      f = m;
      x = L.x;
      y = L.y;
      out = L.out;
      adj = upd L.adj d a;
      next = L.next;
      prev = L.prev;
      face = upd (upd (upd L.face (L.prev a) d) a d) (L.next a) d;
      origin = L.origin;
    }

-- the last entry m takes the number d of a dead entry
unfoldable pub move_entry : ℕ → ℕ → Links → Links
move_entry m d L = record {
  n = m;
  e = L.e;
  f = L.f;
  x = upd L.x d (L.x m);
  y = upd L.y d (L.y m);
  out = upd L.out d (L.out m);
  adj = L.adj;
  next = L.next;
  prev = L.prev;
  face = L.face;
  origin = λ h. upd (λ v. v) m d (L.origin h);
}
