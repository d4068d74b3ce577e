-- Tables read record by record: the links that they hold.
use Rattle.std.specs.Prelude.{◌≡◌, ℕ, ◌+◌, ◌*◌, ◌<◌, Bool, nat_lt, refl}
use Rattle.links.specs.declared.shape.Shape.{Shape}
use Rattle.links.specs.Links.{Links}
use Rattle.links.specs.Tables.{entry_at, half_at, face_at}

-- a number tells, at a place of the memory, what is there if it belongs to its table
module _ (s : Shape) (number : Bool → ℕ → ℕ) where
  abbrev pub of_entry : ℕ → ℕ → ℕ
  of_entry field v = number (nat_lt v s.entries) (entry_at s v + field)

  abbrev pub of_half : ℕ → ℕ → ℕ
  of_half field h = number (nat_lt h (2 * s.edges)) (half_at s h + field)

  abbrev pub of_face : ℕ → ℕ
  of_face k = number (nat_lt k s.faces) (face_at s k)

  -- the links of a draft, of which nothing is known: each is what is read
  abbrev pub listed : Links
  listed = record {
    n = s.n;
    e = s.e;
    f = s.f;
    x = of_entry 0;
    y = of_entry 1;
    out = of_entry 2;
    adj = of_face;
    next = of_half 0;
    prev = of_half 1;
    face = of_half 2;
    origin = of_half 3;
  }

  -- these links are what is read; the places only below n
  pub record Reads (m : Links) : Type 0 where
    pub n : m.n ≡ s.n
    pub e : m.e ≡ s.e
    pub x : (v : ℕ) → v < s.n → of_entry 0 v ≡ m.x v
    pub y : (v : ℕ) → v < s.n → of_entry 1 v ≡ m.y v
    pub out : (v : ℕ) → of_entry 2 v ≡ m.out v
    pub adj : (k : ℕ) → of_face k ≡ m.adj k
    pub next : (h : ℕ) → of_half 0 h ≡ m.next h
    pub prev : (h : ℕ) → of_half 1 h ≡ m.prev h
    pub face : (h : ℕ) → of_half 2 h ≡ m.face h
    pub origin : (h : ℕ) → of_half 3 h ≡ m.origin h

  pub listed_reads : Reads listed
  listed_reads = record { n = refl; e = refl; x = λ v l. refl; y = λ v l. refl; out = λ v. refl; adj = λ k. refl; next = λ h. refl; prev = λ h. refl; face = λ h. refl; origin = λ h. refl }
