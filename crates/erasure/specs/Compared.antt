-- Link tables written out, to compare an erasure with the Rust's number by number.
use Rattle.std.specs.Prelude.{◌≡◌, ℕ, zero, suc, ◌*◌, ◌/◌, List, [], ◌∷◌, ◌++◌, length, Option, slice_index}
use Rattle.links.specs.Links.{Links}
use Rattle.erasure.specs.Erased.{erased, moved}

pub record Tables : Type 0 where
  pub x : List ℕ
  pub y : List ℕ
  pub out : List ℕ
  pub adj : List ℕ
  pub next : List ℕ
  pub prev : List ℕ
  pub face : List ℕ
  pub origin : List ℕ

abbrev pub tables : List ℕ → List ℕ → List ℕ → List ℕ → List ℕ → List ℕ → List ℕ → List ℕ → Tables
tables x y out adj next prev face origin = record { x = x; y = y; out = out; adj = adj; next = next; prev = prev; face = face; origin = origin }

-- the links of tables
abbrev pub read : Tables → Links
read t = record {
  n = length t.x;
  e = length t.next / 2;
  f = length t.adj;
  x = λ i. slice_index t.x i;
  y = λ i. slice_index t.y i;
  out = λ i. slice_index t.out i;
  adj = λ i. slice_index t.adj i;
  next = λ i. slice_index t.next i;
  prev = λ i. slice_index t.prev i;
  face = λ i. slice_index t.face i;
  origin = λ i. slice_index t.origin i;
}

-- g 0 .. g (k - 1)
abbrev pub listing : (ℕ → ℕ) → ℕ → List ℕ
listing g zero = []
listing g (suc k) = listing g k ++ (g k ∷ [])

-- the tables of links, as far as the counts go
abbrev pub written : Links → Tables
written m = record {
  x = listing m.x m.n;
  y = listing m.y m.n;
  out = listing m.out m.n;
  adj = listing m.adj m.f;
  next = listing m.next (2 * m.e);
  prev = listing m.prev (2 * m.e);
  face = listing m.face (2 * m.e);
  origin = listing m.origin (2 * m.e);
}

-- the erasure of v takes the first tables to the second, and the answer tells the moved number
abbrev pub Erases : Tables → ℕ → Option ℕ → Tables → Type 0
Erases before v answer after = (written (erased (read before) v) ≡ after) × (moved (read before) v ≡ answer)
