-- Legal edges make empty faces; the two holes of an erased entry; flips and their measure.
use Rattle.std.specs.Prelude.{◌≡◌, ℕ, suc, ◌+◌, ◌*◌, ◌<◌, ◌≤◌, Bool, true, ◌⊎◌, ℤ, pos, ◌+ℤ◌, ◌≤ℤ◌, ◌<ℤ◌, unsigned_abs}
use Rattle.plane.specs.Plane.{Pt, S, C, far}
use Rattle.plane.specs.Vec.{Vec, D}
use Rattle.delaunay.specs.Ring.{Cyc, Next, Seen, Pieces}
use Rattle.delaunay.specs.Star.{Star, Faces, Chain, Roof}
use Rattle.delaunay.specs.Halves.{Halves}
use Rattle.delaunay.specs.Mesh.{Mesh, Flipped, Legal, Relisted, Lawful, Left, Eaves, Below, Across, Top}
use Rattle.delaunay.specs.Measure.{total, Changed}

-- where each edge of a triangulation is legal, no vector of the ring is inside a face
abbrev pub Polygon : Type 0
Polygon =
    (w : ℕ → Vec) (k : ℕ) (u : Vec) (F : ℕ → ℕ → ℕ → Bool) → Seen w k u → Pieces w k (λ a b c. F a b c ≡ true)
    → (a b c j : ℕ) → F a b c ≡ true → j < k → D (w a) (w b) (w c) (w j) ≤ℤ pos 0

-- the same over halves
abbrev pub PolygonHalves : Type 0
PolygonHalves =
    (live : ℕ → Bool) (nx tw lab : ℕ → ℕ) (w : ℕ → Vec) (k : ℕ) (u : Vec) → Seen w k u → Halves ℕ (λ h. live h ≡ true) nx tw lab w k
    → (h j : ℕ) → live h ≡ true → j < k → D (w (lab h)) (w (lab (nx h))) (w (lab (nx (nx h)))) (w j) ≤ℤ pos 0

-- ---- the hole of an erased entry
-- the faces that fill it turn left, and are empty at the ring and at every entry at which the old faces were
pub record Filled (o : Pt) (p : ℕ → Pt) (k a b c : ℕ) : Type 0 where
  pub left : pos 0 <ℤ S (p a) (p b) (p c)
  pub ring : (j : ℕ) → j < k → C (p a) (p b) (p c) (p j) ≤ℤ pos 0
  pub others : (q : Pt) → pos 0 <ℤ far o q → ((i : ℕ) → i < k → pos 0 ≤ℤ C (p i) (p (suc i)) q o) → C (p a) (p b) (p c) q ≤ℤ pos 0

-- so is each face on the ring, where each edge is legal
abbrev pub Inside : Type 0
Inside =
    (o : Pt) (p : ℕ → Pt) (k : ℕ) (F : ℕ → ℕ → ℕ → Bool) → Star o p k → Faces p k (λ a b c. F a b c ≡ true) → (a b c : ℕ) → F a b c ≡ true → Filled o p k a b c

-- q is an entry that no old face at o holds inside, and is between the ends of the chain
pub record Entry (o : Pt) (p : ℕ → Pt) (m : ℕ) (q : Pt) : Type 0 where
  pub elsewhere : pos 0 <ℤ far o q
  pub after : pos 0 ≤ℤ S o (p 0) q
  pub before : pos 0 ≤ℤ S o q (p m)
  pub out : (i : ℕ) → i < m → pos 0 ≤ℤ C (p i) (p (suc i)) q o

-- faces G and outer halves O on the chain: no entry is inside a face, and none is left of an outer half
pub record Roofed (o : Pt) (p : ℕ → Pt) (m : ℕ) (G : ℕ → ℕ → ℕ → Bool) (O : ℕ → ℕ → Bool) : Type 0 where
  pub ring : (a b c j : ℕ) → G a b c ≡ true → j ≤ m → C (p a) (p b) (p c) (p j) ≤ℤ pos 0
  pub others : (a b c : ℕ) (q : Pt) → G a b c ≡ true → Entry o p m q → C (p a) (p b) (p c) q ≤ℤ pos 0
  pub hull_ring : (a b j : ℕ) → O a b ≡ true → j ≤ m → S (p a) (p b) (p j) ≤ℤ pos 0
  pub hull_others : (a b : ℕ) (q : Pt) → O a b ≡ true → Entry o p m q → S (p a) (p b) q ≤ℤ pos 0

-- so where the edges are legal and the outer halves turn right
abbrev pub Hull : Type 0
Hull =
    (o : Pt) (p : ℕ → Pt) (m : ℕ) (G : ℕ → ℕ → ℕ → Bool) (O : ℕ → ℕ → Bool) → Chain o p m → Roof p m (λ a b c. G a b c ≡ true) (λ a b. O a b ≡ true) → Roofed o p m G O

-- ---- flips end
-- a flip keeps the order of the ring
abbrev pub Order : Type 0
Order = (k a b c d : ℕ) → Cyc k a b c → Cyc k b a d → Cyc k c d b × Cyc k d c a

-- faces in the order of the ring have volumes of at least 0
abbrev pub Volumes : Type 0
Volumes = (o : Pt) (p : ℕ → Pt) (k : ℕ) → Star o p k → (a b c : ℕ) → Cyc k a b c → pos 0 ≤ℤ C (p a) (p b) (p c) o

-- a flip lowers their sum by exactly C a b c d
abbrev pub Falls : Type 0
Falls =
    (a b c d o : Pt) (f g : ℕ → ℤ) (i j n : ℕ) → Changed f g i j n → f i +ℤ f j ≡ C a b c o +ℤ C b a d o → g i +ℤ g j ≡ C c d b o +ℤ C d c a o
    → total f n ≡ total g n +ℤ C a b c d

-- with the length of the list: a flip takes one edge out and puts at most four in
abbrev pub Ends : Type 0
Ends = (t s z : ℤ) (now then : ℕ) → t ≡ s +ℤ z → pos 0 ≤ℤ s → pos 0 <ℤ z → then ≤ now + 3 → 4 * unsigned_abs s + then < 4 * unsigned_abs t + now

-- ---- flips
-- a flip keeps the faces on the ring
abbrev pub Flips : Type 0
Flips =
    (live : ℕ → Bool) (nx tw : ℕ → ℕ) (lab : ℕ → ℕ) (k : ℕ) (edge : ℕ → ℕ → Bool) → Mesh ℕ (λ h. live h ≡ true) nx tw lab k (λ a b. edge a b ≡ true)
    → (nx' lab' : ℕ → ℕ) (e : ℕ) → live e ≡ true → live (tw e) ≡ true → lab (tw e) ≡ lab (nx e) → lab (nx (tw e)) ≡ lab e
    → Flipped ℕ e (tw e) (nx e) (nx (nx e)) (nx (tw e)) (nx (nx (tw e))) nx nx' lab lab' → Mesh ℕ (λ h. live h ≡ true) nx' tw lab' k (λ a b. edge a b ≡ true)

-- and after the flip of an edge that is not legal, each edge that is not listed is legal
abbrev pub StayLegal : Type 0
StayLegal =
    (live : ℕ → Bool) (nx tw : ℕ → ℕ) (lab : ℕ → ℕ) (k : ℕ) (edge : ℕ → ℕ → Bool) → Mesh ℕ (λ h. live h ≡ true) nx tw lab k (λ a b. edge a b ≡ true)
    → (nx' lab' : ℕ → ℕ) (e : ℕ) → live e ≡ true → live (tw e) ≡ true → lab (tw e) ≡ lab (nx e) → lab (nx (tw e)) ≡ lab e
    → Flipped ℕ e (tw e) (nx e) (nx (nx e)) (nx (tw e)) (nx (nx (tw e))) nx nx' lab lab'
    → (w : ℕ → Vec) (listed listed' : ℕ → Bool) → Relisted ℕ e nx tw (λ h. listed h ≡ true) (λ h. listed' h ≡ true)
    → ((h : ℕ) → live h ≡ true → live (tw h) ≡ true → (listed h ≡ true) ⊎ Legal ℕ nx tw lab w h)
    → pos 0 <ℤ D (w (lab e)) (w (lab (nx e))) (w (lab (nx (nx e)))) (w (lab (nx (nx (tw e)))))
    → (h : ℕ) → live h ≡ true → live (tw h) ≡ true → (listed' h ≡ true) ⊎ Legal ℕ nx' tw lab' w h

-- ---- the two holes, by halves
abbrev pub InsideHalves : Type 0
InsideHalves =
    (live : ℕ → Bool) (nx tw lab : ℕ → ℕ) (o : Pt) (p : ℕ → Pt) (k : ℕ) → Star o p k → Mesh ℕ (λ h. live h ≡ true) nx tw lab k (Next k)
    → ((h : ℕ) → live h ≡ true → live (tw h) ≡ true → Lawful ℕ nx tw lab p h)
    → (h : ℕ) → live h ≡ true → Filled o p k (lab h) (lab (nx h)) (lab (nx (nx h)))

-- the same by halves
pub record Closed (live out : ℕ → Bool) (nx lab : ℕ → ℕ) (o : Pt) (p : ℕ → Pt) (m : ℕ) : Type 0 where
  pub ring : (h j : ℕ) → live h ≡ true → j ≤ m → C (p (lab h)) (p (lab (nx h))) (p (lab (nx (nx h)))) (p j) ≤ℤ pos 0
  pub others : (h : ℕ) (q : Pt) → live h ≡ true → Entry o p m q → C (p (lab h)) (p (lab (nx h))) (p (lab (nx (nx h)))) q ≤ℤ pos 0
  pub hull_ring : (h j : ℕ) → out h ≡ true → j ≤ m → S (p (lab h)) (p (lab (nx h))) (p j) ≤ℤ pos 0
  pub hull_others : (h : ℕ) (q : Pt) → out h ≡ true → Entry o p m q → S (p (lab h)) (p (lab (nx h))) q ≤ℤ pos 0

-- the hole of an entry on the hull, by halves
abbrev pub HullHalves : Type 0
HullHalves =
    (live out : ℕ → Bool) (nx pv tw lab : ℕ → ℕ) (o : Pt) (p : ℕ → Pt) (m : ℕ) → Chain o p m → Eaves ℕ (λ h. live h ≡ true) (λ h. out h ≡ true) nx pv tw lab p m
    → Closed live out nx lab o p m

-- where all faces turn left before the flip of an edge that is not legal, they do after it
abbrev pub StayLeft : Type 0
StayLeft =
    (live : ℕ → Bool) (nx tw : ℕ → ℕ) (lab : ℕ → ℕ) (k : ℕ) (edge : ℕ → ℕ → Bool) → Mesh ℕ (λ h. live h ≡ true) nx tw lab k (λ a b. edge a b ≡ true)
    → (nx' lab' : ℕ → ℕ) (e : ℕ) → live e ≡ true → live (tw e) ≡ true → lab (tw e) ≡ lab (nx e) → lab (nx (tw e)) ≡ lab e
    → Flipped ℕ e (tw e) (nx e) (nx (nx e)) (nx (tw e)) (nx (nx (tw e))) nx nx' lab lab'
    → (p : ℕ → Pt) → ((h : ℕ) → live h ≡ true → Left ℕ nx lab p h)
    → pos 0 <ℤ C (p (lab e)) (p (lab (nx e))) (p (lab (nx (nx e)))) (p (lab (nx (nx (tw e)))))
    → (h : ℕ) → live h ≡ true → Left ℕ nx' lab' p h

-- on the hull too, volumes are not negative
abbrev pub HullVolumes : Type 0
HullVolumes = (o : Pt) (p : ℕ → Pt) (m : ℕ) → Chain o p m → (a b c : ℕ) → Cyc (suc m) a b c → pos 0 ≤ℤ C (p a) (p b) (p c) o

-- ---- the hull with the erased entry as the apex m + 1 of the ring: the faces without it are empty, and the halves across from it have all entries on their right
pub record Capped (A : Type 0) (Live : A → Type 0) (nx : A → A) (lab : A → ℕ) (o : Pt) (p : ℕ → Pt) (m : ℕ) : Type 0 where
  pub ring : (h : A) (j : ℕ) → Below A Live nx lab m h → j ≤ m → C (p (lab h)) (p (lab (nx h))) (p (lab (nx (nx h)))) (p j) ≤ℤ pos 0
  pub others : (h : A) (q : Pt) → Below A Live nx lab m h → Entry o p m q → C (p (lab h)) (p (lab (nx h))) (p (lab (nx (nx h)))) q ≤ℤ pos 0
  pub hull_ring : (h : A) (j : ℕ) → Across A Live nx lab m h → j ≤ m → S (p (lab h)) (p (lab (nx h))) (p j) ≤ℤ pos 0
  pub hull_others : (h : A) (q : Pt) → Across A Live nx lab m h → Entry o p m q → S (p (lab h)) (p (lab (nx h))) q ≤ℤ pos 0

-- so where what is across from the apex turns right
abbrev pub Apex : Type 0
Apex =
    (live : ℕ → Bool) (nx tw lab : ℕ → ℕ) (m : ℕ) → Mesh ℕ (λ h. live h ≡ true) nx tw lab (suc (suc m)) (Next (suc (suc m)))
    → (p : ℕ → Pt) → ((h : ℕ) → Below ℕ (λ h. live h ≡ true) nx lab m h → pos 0 ≤ℤ S (p (lab h)) (p (lab (nx h))) (p (lab (nx (nx h)))))
    → ((h : ℕ) → Below ℕ (λ h. live h ≡ true) nx lab m h → Below ℕ (λ h. live h ≡ true) nx lab m (tw h) → Lawful ℕ nx tw lab p h)
    → ((a b c : ℕ) → Top ℕ (λ h. live h ≡ true) nx lab m a b → Top ℕ (λ h. live h ≡ true) nx lab m b c → S (p a) (p b) (p c) ≤ℤ pos 0)
    → (o : Pt) → Chain o p m → Capped ℕ (λ h. live h ≡ true) nx lab o p m
