-- A hole that is filled with faces on the ring of its border, while edges in it are flipped.
use Rattle.std.specs.Prelude.{◌≡◌, ℕ, ◌*◌, ◌/◌, ◌^◌, ◌<◌, ◌≤◌, Bool, true, false, ◌≢◌, ◌⊎◌, List, length, pos, ◌≤ℤ◌}
use Rattle.plane.specs.Plane.{Pt, C}
use Rattle.links.specs.Links.{Links, rev, place}
use Rattle.delaunay.specs.Ring.{Cyc}
use Rattle.delaunay.specs.Mesh.{Mesh, Lawful, Left}
use Rattle.surgery.specs.Linked.{Linked}
use Rattle.surgery.specs.Theorems.{On}
use Rattle.erasure.specs.Legalize.{contains, should_flip, legalize, turns}

-- the ring around the place o: its places, their number, the number of an entry on it; which numbers the border joins;
-- which halves lie in the hole; what lives; and whether faces in the hole turn left at all times
pub record Hole : Type 0 where
  pub o : Pt
  pub p : ℕ → Pt
  pub size : ℕ
  pub lab : ℕ → ℕ
  pub border : ℕ → ℕ → Bool
  pub inside : ℕ → Bool
  pub entries : ℕ → Bool
  pub edges : ℕ → Bool
  pub faces : ℕ → Bool
  pub turning : Bool

module _ (H : Hole) where
  -- the number on the ring of a half's start
  abbrev pub label : Links → ℕ → ℕ
  label L h = H.lab (L.origin h)

  -- h lies in the hole
  abbrev pub Inside : ℕ → Type 0
  Inside h = H.inside h ≡ true

  -- the edge of h is legal
  abbrev pub LawfulIn : Links → ℕ → Type 0
  LawfulIn L h = Lawful ℕ L.next rev (label L) H.p h

  -- the links are in order, and the hole has faces on its ring
  pub record Region (L : Links) : Type 0 where
    pub linked : Linked L (On H.entries) (On H.edges) (On H.faces)
    pub below : (k : ℕ) → On H.edges k → k < L.e
    pub face_below : (g : ℕ) → On H.faces g → g < L.f
    pub live : (h : ℕ) → Inside h → On H.edges (h / 2)
    pub inner : (h : ℕ) → Inside h → L.face h ≢ 0
    pub mesh : Mesh ℕ Inside L.next rev (label L) H.size (λ a b. H.border a b ≡ true)
    pub at : (h : ℕ) → Inside h → place L (L.origin h) ≡ H.p (label L h)
    pub left : H.turning ≡ true → (h : ℕ) → Inside h → Left ℕ L.next (label L) H.p h

  -- each edge in the hole is listed or legal; what is listed has a half in the hole
  pub record Listed (L : Links) (l : List ℕ) : Type 0 where
    pub legal : (h : ℕ) → Inside h → Inside (rev h) → (contains l (h / 2) ≡ true) ⊎ LawfulIn L h
    pub sided : (k : ℕ) → contains l k ≡ true → Inside (2 * k) ⊎ Inside (rev (2 * k))

  -- nothing changes but the links of halves in the hole, and roots
  pub record Framed (L L' : Links) : Type 0 where
    pub n : L'.n ≡ L.n
    pub e : L'.e ≡ L.e
    pub f : L'.f ≡ L.f
    pub x : (v : ℕ) → L'.x v ≡ L.x v
    pub y : (v : ℕ) → L'.y v ≡ L.y v
    pub next : (h : ℕ) → H.inside h ≡ false → L'.next h ≡ L.next h
    pub prev : (h : ℕ) → H.inside h ≡ false → L'.prev h ≡ L.prev h
    pub face : (h : ℕ) → H.inside h ≡ false → L'.face h ≡ L.face h
    pub origin : (h : ℕ) → H.inside h ≡ false → L'.origin h ≡ L.origin h

  -- the border is not flipped, and what lies in the hole is not kept
  pub record Fenced (L : Links) (keep : ℕ → Bool) : Type 0 where
    pub border : (L' : Links) → Region L' → Framed L L' → (h : ℕ) → Inside h → H.inside (rev h) ≡ false → keep (h / 2) ≡ false → should_flip L' (h / 2) ≡ false
    pub free : (h : ℕ) → Inside h → Inside (rev h) → keep (h / 2) ≡ false

  -- volumes over o are not negative, and not too large
  pub record Voluminous : Type 0 where
    pub low : (a b c : ℕ) → Cyc H.size a b c → pos 0 ≤ℤ C (H.p a) (H.p b) (H.p c) H.o
    pub high : (a b c : ℕ) → Cyc H.size a b c → C (H.p a) (H.p b) (H.p c) H.o ≤ℤ pos (2 ^ 60)

-- the loop makes all edges in the hole legal, and changes nothing outside it but roots
abbrev pub Legalizes : Type 0
Legalizes =
    (H : Hole) (L : Links) (l : List ℕ) (keep : ℕ → Bool) → Region H L → Listed H L l → Fenced H L keep → Voluminous H → L.f ≤ 65536 → length l ≤ 65536
    → Region H (legalize turns keep l L) × Framed H L (legalize turns keep l L)
    × ((h : ℕ) → Inside H h → Inside H (rev h) → LawfulIn H (legalize turns keep l L) h)
