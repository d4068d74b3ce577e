-- How faces on a ring begin: a hole that is filled by cutting off triangles, and the star of an entry on the hull.
use Rattle.std.specs.Prelude.{◌≡◌, ℕ, zero, suc, ◌<◌, Bool, true, false, cond, ◌&&◌, ◌≢◌, ◌⊎◌, ◌==◌, nat_eq, nat_lt}
use Rattle.links.specs.Links.{Links, rev, halves, to}
use Rattle.links.specs.Rules.{Sound}
use Rattle.links.specs.Tests.{any}
use Rattle.planar.specs.Star.{spoke, Ring, Fan}
use Rattle.delaunay.specs.Ring.{Cyc, Next}
use Rattle.delaunay.specs.Mesh.{Mesh, Flipped, Across}

-- Live h: h is a half of a face on the ring. Rest h: h is a half of the hole that is left, whose numbers go once around
pub record Partial (A : Type 0) (Live Rest : A → Type 0) (nx tw : A → A) (lab : A → ℕ) (k : ℕ) (Edge : ℕ → ℕ → Type 0) : Type 0 where
  pub stays : (h : A) → Live h → Live (nx h)
  pub three : (h : A) → Live h → nx (nx (nx h)) ≡ h
  pub order : (h : A) → Live h → Cyc k (lab h) (lab (nx h)) (lab (nx (nx h)))
  pub apart : (h : A) → Live h → Rest h → ⊥
  pub goes : (h : A) → Rest h → Rest (nx h)
  pub only : (h g : A) → Rest h → Rest g → nx h ≡ nx g → h ≡ g
  pub turn : (h g : A) → Rest h → Rest g → (g ≡ h) ⊎ ((g ≡ nx h) ⊎ Cyc k (lab h) (lab (nx h)) (lab g))
  pub back : (h : A) → tw (tw h) ≡ h
  pub over : (h : A) → Live h ⊎ Rest h → Edge (lab h) (lab (nx h)) ⊎ ((Live (tw h) ⊎ Rest (tw h)) × (lab (tw h) ≡ lab (nx h)) × (lab (nx (tw h)) ≡ lab h))

-- the halves i and o, which follows it, are cut off by a new edge e, t; p leads to i, n follows o
pub record Eared (A : Type 0) (e t i o p n : A) (nx nx' tw : A → A) (lab lab' : A → ℕ) : Type 0 where
  pub twin : tw e ≡ t
  pub at_i : nx i ≡ o
  pub at_o : nx o ≡ n
  pub at_p : nx p ≡ i
  pub next_o : nx' o ≡ e
  pub next_e : nx' e ≡ i
  pub next_p : nx' p ≡ t
  pub next_t : nx' t ≡ n
  pub next_else : (h : A) → h ≢ o → h ≢ e → h ≢ p → h ≢ t → nx' h ≡ nx h
  pub lab_e : lab' e ≡ lab n
  pub lab_t : lab' t ≡ lab i
  pub lab_else : (h : A) → h ≢ e → h ≢ t → lab' h ≡ lab h

-- what lives after, and what is left
abbrev pub Grown : (A : Type 0) (Live : A → Type 0) → A → A → A → A → Type 0
Grown A Live i o e h = Live h ⊎ ((h ≡ i) ⊎ ((h ≡ o) ⊎ (h ≡ e)))

-- what is left of the hole after
abbrev pub Shrunk : (A : Type 0) (Rest : A → Type 0) → A → A → A → A → Type 0
Shrunk A Rest i o t h = (Rest h × (h ≢ i) × (h ≢ o)) ⊎ (h ≡ t)

-- the border of the hole: each half joins neighbours
pub record Border (rest : ℕ → Bool) (nx lab : ℕ → ℕ) (k : ℕ) : Type 0 where
  pub goes : (h : ℕ) → rest h ≡ true → rest (nx h) ≡ true
  pub small : (h : ℕ) → rest h ≡ true → lab h < k
  pub only : (h g : ℕ) → rest h ≡ true → rest g ≡ true → lab h ≡ lab g → h ≡ g
  pub next : (h : ℕ) → rest h ≡ true → Next k (lab h) (lab (nx h))

-- it is a hole with no face yet
abbrev pub RingStart : Type 0
RingStart =
    (rest : ℕ → Bool) (nx tw lab : ℕ → ℕ) (k : ℕ) → ((h : ℕ) → tw (tw h) ≡ h) → Border rest nx lab k
    → Partial ℕ (λ _. false ≡ true) (λ h. rest h ≡ true) nx tw lab k (Next k)

-- a triangle is cut off
abbrev pub EarStep : Type 0
EarStep =
    (live rest : ℕ → Bool) (nx nx' tw lab lab' : ℕ → ℕ) (k : ℕ) (edge : ℕ → ℕ → Bool) (e t i o p n : ℕ)
    → Partial ℕ (λ h. live h ≡ true) (λ h. rest h ≡ true) nx tw lab k (λ a b. edge a b ≡ true) → Eared ℕ e t i o p n nx nx' tw lab lab'
    → rest i ≡ true → rest p ≡ true → n ≢ i
    → live e ≡ false → rest e ≡ false → live t ≡ false → rest t ≡ false
    → Partial ℕ (Grown ℕ (λ h. live h ≡ true) i o e) (Shrunk ℕ (λ h. rest h ≡ true) i o t) nx' tw lab' k (λ a b. edge a b ≡ true)

-- where the rest is a triangle, all are faces on the ring
abbrev pub RingEnd : Type 0
RingEnd =
    (live rest : ℕ → Bool) (nx tw lab : ℕ → ℕ) (k : ℕ) (edge : ℕ → ℕ → Bool) → Partial ℕ (λ h. live h ≡ true) (λ h. rest h ≡ true) nx tw lab k (λ a b. edge a b ≡ true)
    → ((h : ℕ) → rest h ≡ true → (nx (nx (nx h)) ≡ h) × (nx h ≢ h)) → Mesh ℕ (λ h. (live h ≡ true) ⊎ (rest h ≡ true)) nx tw lab k (λ a b. edge a b ≡ true)

-- ---- on the hull
-- the number of u among c 0 .. c (k - 1), or k
abbrev pub index : (ℕ → ℕ) → ℕ → ℕ → ℕ
index c zero u = 0
index c (suc k) u = cond (c 0 == u) 0 (suc (index (λ i. c (suc i)) k u))

module _ (m : Links) (s last : ℕ) where
  -- a half of one of the faces at the origin of s
  abbrev pub in_star : ℕ → Bool
  in_star h = nat_lt h (halves m) && any last (λ i. nat_eq (m.face h) (m.face (spoke m s i)))

  -- the number of its start: the tips from 0 on, the origin of s last
  abbrev pub number : ℕ → ℕ
  number h = index (λ i. to m (spoke m s i)) (suc last) (m.origin h)

-- the star of an entry on the hull is a mesh, with the entry as its apex
abbrev pub StarIsMesh : Type 0
StarIsMesh =
    (m : Links) → Sound m → (s last : ℕ) → s < halves m → Ring m s (suc last) → Fan m s last
    → Mesh ℕ (λ h. in_star m s last h ≡ true) m.next rev (number m s last) (suc (suc last)) (Next (suc (suc last)))

-- e leads to the apex, between two halves across from it, nx (nx e) and nx (tw e): the flip of e puts e across from it in their place, and cuts off a face
pub record Scanned (A : Type 0) (Live : A → Type 0) (nx nx' tw : A → A) (lab lab' : A → ℕ) (m : ℕ) (e : A) : Type 0 where
  pub across : Across A Live nx' lab' m e
  pub from : lab' e ≡ lab (nx (nx e))
  pub goes : lab' (nx' e) ≡ lab (nx (nx (tw e)))
  pub others : (x : A) → Across A Live nx lab m x → x ≢ nx (nx e) → x ≢ nx (tw e) → Across A Live nx' lab' m x × (lab' x ≡ lab x) × (lab' (nx' x) ≡ lab (nx x))
  pub every : (x : A) → Across A Live nx' lab' m x → (x ≡ e) ⊎ (Across A Live nx lab m x × (x ≢ nx (nx e)) × (x ≢ nx (tw e)))
  pub cut_off : (lab' (tw e) ≡ lab (nx (nx (tw e)))) × (lab' (nx' (tw e)) ≡ lab (nx (nx e))) × (lab' (nx' (nx' (tw e))) ≡ lab e)

-- so a step of the scan
abbrev pub ScanStep : Type 0
ScanStep =
    (live : ℕ → Bool) (nx tw lab : ℕ → ℕ) (m : ℕ) (edge : ℕ → ℕ → Bool) → Mesh ℕ (λ h. live h ≡ true) nx tw lab (suc (suc m)) (λ a b. edge a b ≡ true)
    → (nx' lab' : ℕ → ℕ) (e : ℕ) → live e ≡ true → live (tw e) ≡ true → lab (tw e) ≡ lab (nx e) → lab (nx (tw e)) ≡ lab e
    → Flipped ℕ e (tw e) (nx e) (nx (nx e)) (nx (tw e)) (nx (nx (tw e))) nx nx' lab lab' → lab (nx e) ≡ suc m
    → Scanned ℕ (λ h. live h ≡ true) nx nx' tw lab lab' m e
