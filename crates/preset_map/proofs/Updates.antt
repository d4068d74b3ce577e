-- What a write changes, and what it leaves.
use Rattle.std.proofs.Common.{◌≡◌, ℕ, ◌+◌, ◌*◌, ◌<◌, ◌≤◌, Bool, true, false, cond, ltb, ◌≢◌, ◌==◌, List, length, set, sym, refl, ap, ◌∙◌, arith, length-set, get_or-set_other, get_or-set_same, ltb-true, lt-ltb, eq-eqb, ne_eqb, add-zero}
use Rattle.std.proofs.Math.Decide.{ℕ_discrete}
use Rattle.links.specs.declared.shape.Shape.{Shape}
use Rattle.links.specs.Links.{Links}
use Rattle.links.specs.Tables.{cell, size, half_at, face_at, of_entry, of_half, held}
use Rattle.preset_map.specs.Filling.{with_out, with_half, with_face}
use Rattle.preset_map.specs.Updates.{upd, set_out, set_adj, set_half_links, WritesUpdate}

-- a cell at another number
other_cell : (b : Bool) (w : List ℕ) (i j a : ℕ) → (b ≡ true → j ≢ i) → cell b (set w i a) j ≡ cell b w j
other_cell true w i j a h = get_or-set_other w i j a 0 (h refl)
other_cell false w i j a h = refl

-- a table whose record h is written: record k is at the number `at k`
written : (count : ℕ) (at : ℕ → ℕ) (w : List ℕ) (h a : ℕ) → h < count → at h < length w → ((k : ℕ) → at k ≡ at h → k ≡ h) → (k : ℕ)
    → cell (ltb k count) (set w (at h) a) (at k) ≡ upd (λ i. cell (ltb i count) w (at i)) h a k
written count at w h a l m one k = go (ℕ_discrete k h)
  where
    go : Dec (k ≡ h) → cell (ltb k count) (set w (at h) a) (at k) ≡ upd (λ i. cell (ltb i count) w (at i)) h a k
    go (yes e) = rw (e, lt-ltb h count l, eq-eqb h h refl) (get_or-set_same w (at h) a 0 m)
    go (no n) = rw (ne_eqb k h n) (other_cell (ltb k count) w (at h) (at k) a (λ _ e. n (one k e)))

module _ (s : Shape) where
  -- a coordinate is that of the record
  told : (w u : List ℕ) (field v : ℕ) → of_entry u s field v ≡ of_entry w s field v → cond (ltb v s.n) (of_entry u s field v) 0 ≡ cond (ltb v s.n) (of_entry w s field v) 0
  told w u field v e = ap (λ z. cond (ltb v s.n) z 0) e

  module _ (w : List ℕ) (holds : size s ≤ length w) where
    out_updates : (v h : ℕ) → v < s.entries → held (with_out w v h) s ≡ set_out (held w s) v h
    out_updates v h l = λ t. record {
      n = s.n;
      e = s.e;
      f = s.f;
      x = λ u. told w (set w (3 * v + 2) h) 0 u (other_cell (ltb u s.entries) w (3 * v + 2) (3 * u + 0) h (λ _ e. omega arith)) t;
      y = λ u. told w (set w (3 * v + 2) h) 1 u (other_cell (ltb u s.entries) w (3 * v + 2) (3 * u + 1) h (λ _ e. omega arith)) t;
      out = λ u. written s.entries (λ k. 3 * k + 2) w v h l (omega arith) (λ k e. omega arith) u t;
      adj = λ k. other_cell (ltb k s.faces) w (3 * v + 2) (face_at s k) h (λ _ e. omega arith) t;
      next = λ k. half 0 k t;
      prev = λ k. half 1 k t;
      face = λ k. half 2 k t;
      origin = λ k. half 3 k t;
    }
      where
        half : (field k : ℕ) → of_half (set w (3 * v + 2) h) s field k ≡ of_half w s field k
        half field k = other_cell (ltb k (2 * s.edges)) w (3 * v + 2) (half_at s k + field) h (λ _ e. omega arith)

    adj_updates : (g h : ℕ) → g < s.faces → held (with_face w s g h) s ≡ set_adj (held w s) g h
    adj_updates g h l = λ t. record {
      n = s.n;
      e = s.e;
      f = s.f;
      x = λ u. told w (set w (face_at s g) h) 0 u (entry 0 u (omega arith)) t;
      y = λ u. told w (set w (face_at s g) h) 1 u (entry 1 u (omega arith)) t;
      out = λ u. entry 2 u (omega arith) t;
      adj = λ k. written s.faces (face_at s) w g h l (omega arith) (λ k e. omega arith) k t;
      next = λ k. half 0 k (omega arith) t;
      prev = λ k. half 1 k (omega arith) t;
      face = λ k. half 2 k (omega arith) t;
      origin = λ k. half 3 k (omega arith) t;
    }
      where
        entry : (field u : ℕ) → field < 3 → of_entry (set w (face_at s g) h) s field u ≡ of_entry w s field u
        entry field u f = other_cell (ltb u s.entries) w (face_at s g) (3 * u + field) h (λ b e. let b' = ltb-true u s.entries b in omega arith)

        half : (field k : ℕ) → field < 4 → of_half (set w (face_at s g) h) s field k ≡ of_half w s field k
        half field k f = other_cell (ltb k (2 * s.edges)) w (face_at s g) (half_at s k + field) h (λ b e. let b' = ltb-true k (2 * s.edges) b in omega arith)

  -- ---- halves: one link at a time; `next`, `prev`, `face` and `origin` are 0, 1, 2 and 3
  set_link : ℕ → Links → ℕ → ℕ → Links
  set_link q m h a = record {
    n = m.n;
    e = m.e;
    f = m.f;
    x = m.x;
    y = m.y;
    out = m.out;
    adj = m.adj;
    next = cond (q == 0) (upd m.next h a) m.next;
    prev = cond (q == 1) (upd m.prev h a) m.prev;
    face = cond (q == 2) (upd m.face h a) m.face;
    origin = cond (q == 3) (upd m.origin h a) m.origin;
  }

  link_updates : (w : List ℕ) → size s ≤ length w → (q h a : ℕ) → q < 4 → h < 2 * s.edges → held (set w (half_at s h + q) a) s ≡ set_link q (held w s) h a
  unfolding set_link
  link_updates w holds q h a small l = λ t. record {
    n = s.n;
    e = s.e;
    f = s.f;
    x = λ u. told w (set w c a) 0 u (entry 0 u (omega arith)) t;
    y = λ u. told w (set w c a) 1 u (entry 1 u (omega arith)) t;
    out = λ u. entry 2 u (omega arith) t;
    adj = λ k. other_cell (ltb k s.faces) w c (face_at s k) a (λ _ e. omega arith) t;
    next = λ k. half 0 (omega arith) k t;
    prev = λ k. half 1 (omega arith) k t;
    face = λ k. half 2 (omega arith) k t;
    origin = λ k. half 3 (omega arith) k t;
  }
    where
      c : ℕ
      c = half_at s h + q

      entry : (field u : ℕ) → field < 3 → of_entry (set w (half_at s h + q) a) s field u ≡ of_entry w s field u
      entry field u f = other_cell (ltb u s.entries) w (half_at s h + q) (3 * u + field) a (λ b e. let b' = ltb-true u s.entries b in omega arith)

      half : (field : ℕ) → field < 4 → (k : ℕ) → of_half (set w (half_at s h + q) a) s field k ≡ (cond (q == field) (upd (of_half w s field) h a) (of_half w s field)) k
      half field f k = go (ℕ_discrete q field)
        where
          go : Dec (q ≡ field) → of_half (set w (half_at s h + q) a) s field k ≡ (cond (q == field) (upd (of_half w s field) h a) (of_half w s field)) k
          go (yes e) = rw (e, eq-eqb field field refl) (written (2 * s.edges) (λ i. half_at s i + field) w h a l (omega arith) (λ i d. omega arith) k)
          go (no n) = rw (ne_eqb q field n) (other_cell (ltb k (2 * s.edges)) w (half_at s h + q) (half_at s k + field) a (λ _ d. let same : q ≡ field = omega arith in n same))

  half_updates : (w : List ℕ) → size s ≤ length w → (h a b c d : ℕ) → h < 2 * s.edges → held (with_half w s h a b c d) s ≡ set_half_links (held w s) h a b c d
  unfolding set_link
  half_updates w holds h a b c d l =
      link_updates w3 h3 3 h d (omega arith) l ∙ ap (λ m. set_link 3 m h d) (link_updates w2 h2 2 h c (omega arith) l)
      ∙ ap (λ m. set_link 3 (set_link 2 m h c) h d) (link_updates w1 h1 1 h b (omega arith) l)
      ∙ ap (λ m. set_link 3 (set_link 2 (set_link 1 m h b) h c) h d) first
    where
      w1 : List ℕ
      w1 = set w (half_at s h) a

      w2 : List ℕ
      w2 = set w1 (half_at s h + 1) b

      w3 : List ℕ
      w3 = set w2 (half_at s h + 2) c

      h1 : size s ≤ length w1
      h1 = rw length-set holds

      h2 : size s ≤ length w2
      h2 = rw length-set h1

      h3 : size s ≤ length w3
      h3 = rw length-set h2

      first : held w1 s ≡ set_link 0 (held w s) h a
      first = ap (λ i. held (set w i a) s) (sym (add-zero (half_at s h))) ∙ link_updates w holds 0 h a (omega arith) l

pub writes_update : WritesUpdate
writes_update w s holds = (out_updates s w holds, half_updates s w holds, adj_updates s w holds)
