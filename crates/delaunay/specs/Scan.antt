-- The scan of the hull: what is across from the apex, from the first tip on, is made to turn right.
use Rattle.std.specs.Prelude.{◌≡◌, ℕ, suc, ◌<◌, ◌≤◌, Bool, true, ◌≢◌, pos, ◌≤ℤ◌, ◌<ℤ◌}
use Rattle.plane.specs.Plane.{Pt, S}
use Rattle.links.specs.Links.{Links, halves}
use Rattle.links.specs.Rules.{Sound}
use Rattle.planar.specs.Star.{spoke, tip, Ring, Fan}
use Rattle.delaunay.specs.Ring.{Next}
use Rattle.delaunay.specs.Mesh.{Mesh, Flipped, Below, Across, Top}
use Rattle.delaunay.specs.Start.{in_star, number}

-- up to the number j, two that follow each other turn right
pub record Done (A : Type 0) (Live : A → Type 0) (nx : A → A) (lab : A → ℕ) (p : ℕ → Pt) (m j : ℕ) : Type 0 where
  pub only : (h g : A) → Across A Live nx lab m h → Across A Live nx lab m g → lab (nx h) ≡ lab (nx g) → h ≡ g
  pub left : (h : A) → Below A Live nx lab m h → pos 0 ≤ℤ S (p (lab h)) (p (lab (nx h))) (p (lab (nx (nx h))))
  pub right : (h g : A) → Across A Live nx lab m h → Across A Live nx lab m g → lab (nx h) ≡ lab g → lab (nx g) ≤ j → S (p (lab h)) (p (lab g)) (p (lab (nx g))) ≤ℤ pos 0

-- so but for the last one, top, which leads to j
pub record Stacked (A : Type 0) (Live : A → Type 0) (nx : A → A) (lab : A → ℕ) (p : ℕ → Pt) (m j : ℕ) (top : A) : Type 0 where
  pub across : Across A Live nx lab m top
  pub leads : lab (nx top) ≡ j
  pub only : (h g : A) → Across A Live nx lab m h → Across A Live nx lab m g → lab (nx h) ≡ lab (nx g) → h ≡ g
  pub left : (h : A) → Below A Live nx lab m h → pos 0 ≤ℤ S (p (lab h)) (p (lab (nx h))) (p (lab (nx (nx h))))
  pub right : (h g : A) → Across A Live nx lab m h → Across A Live nx lab m g → lab (nx h) ≡ lab g → lab (nx g) ≤ j → g ≢ top → S (p (lab h)) (p (lab g)) (p (lab (nx g))) ≤ℤ pos 0

-- the next one is put on top
abbrev pub ScanNext : Type 0
ScanNext =
    (live : ℕ → Bool) (nx lab : ℕ → ℕ) (p : ℕ → Pt) (m j top : ℕ) → Done ℕ (λ h. live h ≡ true) nx lab p m j
    → Across ℕ (λ h. live h ≡ true) nx lab m top → lab (nx top) ≡ suc j → Stacked ℕ (λ h. live h ≡ true) nx lab p m (suc j) top

-- before the top there is another, unless it starts at the first tip: over the edge e, which leads to the apex
abbrev pub ScanBefore : Type 0
ScanBefore =
    (live : ℕ → Bool) (nx tw lab : ℕ → ℕ) (m : ℕ) → Mesh ℕ (λ h. live h ≡ true) nx tw lab (suc (suc m)) (Next (suc (suc m)))
    → (top : ℕ) → Across ℕ (λ h. live h ≡ true) nx lab m top → lab top ≢ 0
    → (live (tw (nx (nx top))) ≡ true) × (lab (tw (nx (nx top))) ≡ lab top) × (lab (nx (tw (nx (nx top)))) ≡ suc m)
    × Across ℕ (λ h. live h ≡ true) nx lab m (nx (nx (tw (nx (nx top)))))

-- it turns right there: up to j all do
abbrev pub ScanRest : Type 0
ScanRest =
    (live : ℕ → Bool) (nx lab : ℕ → ℕ) (p : ℕ → Pt) (m j top : ℕ) → Stacked ℕ (λ h. live h ≡ true) nx lab p m j top
    → ((h : ℕ) → Across ℕ (λ h. live h ≡ true) nx lab m h → lab (nx h) ≡ lab top → S (p (lab h)) (p (lab top)) (p j) ≤ℤ pos 0) → Done ℕ (λ h. live h ≡ true) nx lab p m j

-- it turns left: the edge between them is flipped, and takes their place on top
abbrev pub ScanFlips : Type 0
ScanFlips =
    (live : ℕ → Bool) (nx tw lab : ℕ → ℕ) (p : ℕ → Pt) (m j : ℕ) (edge : ℕ → ℕ → Bool) → Mesh ℕ (λ h. live h ≡ true) nx tw lab (suc (suc m)) (λ a b. edge a b ≡ true)
    → (nx' lab' : ℕ → ℕ) (e : ℕ) → live e ≡ true → live (tw e) ≡ true → lab (tw e) ≡ lab (nx e) → lab (nx (tw e)) ≡ lab e
    → Flipped ℕ e (tw e) (nx e) (nx (nx e)) (nx (tw e)) (nx (nx (tw e))) nx nx' lab lab' → lab (nx e) ≡ suc m
    → Stacked ℕ (λ h. live h ≡ true) nx lab p m j (nx (tw e)) → pos 0 <ℤ S (p (lab (nx (nx e)))) (p (lab e)) (p j)
    → Stacked ℕ (λ h. live h ≡ true) nx' lab' p m j e

-- at the end all turn right
abbrev pub ScanEnd : Type 0
ScanEnd =
    (live : ℕ → Bool) (nx tw lab : ℕ → ℕ) (p : ℕ → Pt) (m : ℕ) → Mesh ℕ (λ h. live h ≡ true) nx tw lab (suc (suc m)) (Next (suc (suc m)))
    → Done ℕ (λ h. live h ≡ true) nx lab p m m
    → (a b c : ℕ) → Top ℕ (λ h. live h ≡ true) nx lab m a b → Top ℕ (λ h. live h ≡ true) nx lab m b c → S (p a) (p b) (p c) ≤ℤ pos 0

-- the star of an entry on the hull, before the scan: its border halves are across from the apex
pub record Unscanned (m : Links) (s last : ℕ) : Type 0 where
  pub done : Done ℕ (λ h. in_star m s last h ≡ true) m.next (number m s last) (tip m s) last 0
  pub across : (i : ℕ) → i < last → Across ℕ (λ h. in_star m s last h ≡ true) m.next (number m s last) last (m.next (spoke m s i))
  pub from : (i : ℕ) → i < last → number m s last (m.next (spoke m s i)) ≡ i
  pub goes : (i : ℕ) → i < last → number m s last (m.next (m.next (spoke m s i))) ≡ suc i

abbrev pub ScanStarts : Type 0
ScanStarts = (m : Links) → Sound m → (s last : ℕ) → s < halves m → Ring m s (suc last) → Fan m s last → Unscanned m s last
