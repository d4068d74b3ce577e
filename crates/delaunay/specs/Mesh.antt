-- Faces on a ring by their halves, and the flip of an edge.
use Rattle.std.specs.Prelude.{◌≡◌, ℕ, suc, ◌<◌, ◌≤◌, ◌⊎◌, pos, ◌≤ℤ◌, ◌<ℤ◌, ◌≢◌}
use Rattle.plane.specs.Plane.{Pt, S, C}
use Rattle.plane.specs.Vec.{Vec, D}
use Rattle.delaunay.specs.Ring.{Cyc}

-- Live h: h is a half of a face on the ring. nx: the next half of the face; tw: the other half of the edge; lab: the number of the start on the ring
-- Edge a b: the border of the hole has a half from a to b
pub record Mesh (A : Type 0) (Live : A → Type 0) (nx tw : A → A) (lab : A → ℕ) (k : ℕ) (Edge : ℕ → ℕ → Type 0) : Type 0 where
  pub stays : (h : A) → Live h → Live (nx h)
  pub three : (h : A) → Live h → nx (nx (nx h)) ≡ h
  pub back : (h : A) → tw (tw h) ≡ h
  pub order : (h : A) → Live h → Cyc k (lab h) (lab (nx h)) (lab (nx (nx h)))
  pub over : (h : A) → Live h → Edge (lab h) (lab (nx h)) ⊎ (Live (tw h) × (lab (tw h) ≡ lab (nx h)) × (lab (nx (tw h)) ≡ lab h))

-- the edge of h is legal
abbrev pub Legal : (A : Type 0) (nx tw : A → A) (lab : A → ℕ) (w : ℕ → Vec) → A → Type 0
Legal A nx tw lab w h = D (w (lab h)) (w (lab (nx h))) (w (lab (nx (nx h)))) (w (lab (nx (nx (tw h))))) ≤ℤ pos 0

-- the halves of the two faces at e: en, ep follow e; tn, tp follow its twin t
pub record Flipped (A : Type 0) (e t en ep tn tp : A) (nx nx' : A → A) (lab lab' : A → ℕ) : Type 0 where
  pub next_e : nx' e ≡ tp
  pub next_tp : nx' tp ≡ en
  pub next_en : nx' en ≡ e
  pub next_t : nx' t ≡ ep
  pub next_ep : nx' ep ≡ tn
  pub next_tn : nx' tn ≡ t
  pub lab_e : lab' e ≡ lab ep
  pub lab_t : lab' t ≡ lab tp
  pub others : (h : A) → (h ≢ e) → (h ≢ t) → (h ≢ en) → (h ≢ ep) → (h ≢ tn) → (h ≢ tp) → nx' h ≡ nx h
  pub labels : (h : A) → (h ≢ e) → (h ≢ t) → lab' h ≡ lab h

-- what a turn of the loop does to the set of edges that are still to be looked at, by their halves
pub record Relisted (A : Type 0) (e : A) (nx tw : A → A) (Listed Listed' : A → Type 0) : Type 0 where
  pub keeps : (h : A) → Listed h → (h ≢ e) → (h ≢ tw e) → Listed' h
  pub twin : (h : A) → Listed' h → Listed' (tw h)
  pub en : Listed' (nx e)
  pub ep : Listed' (nx (nx e))
  pub tn : Listed' (nx (tw e))
  pub tp : Listed' (nx (nx (tw e)))

-- the same by places
abbrev pub Lawful : (A : Type 0) (nx tw : A → A) (lab : A → ℕ) (p : ℕ → Pt) → A → Type 0
Lawful A nx tw lab p h = C (p (lab h)) (p (lab (nx h))) (p (lab (nx (nx h)))) (p (lab (nx (nx (tw h))))) ≤ℤ pos 0

-- the face of h turns left
abbrev pub Left : (A : Type 0) (nx : A → A) (lab : A → ℕ) (p : ℕ → Pt) → A → Type 0
Left A nx lab p h = pos 0 <ℤ S (p (lab h)) (p (lab (nx h))) (p (lab (nx (nx h))))

-- the hole of an entry on the hull, filled: Live h, a half of a new face; Out h, an outer half of the chain. pv: the half before, along the outside
pub record Eaves (A : Type 0) (Live Out : A → Type 0) (nx pv tw : A → A) (lab : A → ℕ) (p : ℕ → Pt) (m : ℕ) : Type 0 where
  pub stays : (h : A) → Live h → Live (nx h)
  pub three : (h : A) → Live h → nx (nx (nx h)) ≡ h
  pub order : (h : A) → Live h → Cyc (suc m) (lab h) (lab (nx h)) (lab (nx (nx h)))
  pub left : (h : A) → Live h → pos 0 ≤ℤ S (p (lab h)) (p (lab (nx h))) (p (lab (nx (nx h))))
  pub over : (h : A) → Live h → (suc (lab h) ≡ lab (nx h))
      ⊎ ((Out (tw h) ⊎ (Live (tw h) × Lawful A nx tw lab p h)) × (lab (tw h) ≡ lab (nx h)) × (lab (nx (tw h)) ≡ lab h))
  pub out : (h : A) → Out h → (lab h < lab (nx h)) × (lab (nx h) ≤ m)
  pub under : (h : A) → Out h → (suc (lab h) ≡ lab (nx h)) ⊎ (Live (tw h) × (lab (tw h) ≡ lab (nx h)) × (lab (nx (tw h)) ≡ lab h))
  pub next : (h : A) → Out h → (lab (nx h) ≡ m) ⊎ (Out (nx h) × (S (p (lab h)) (p (lab (nx h))) (p (lab (nx (nx h)))) ≤ℤ pos 0))
  pub prev : (h : A) → Out h → (lab h ≡ 0) ⊎ (Out (pv h) × (nx (pv h) ≡ h))

-- a face with the labels a, b, c
abbrev pub At : (A : Type 0) (Live : A → Type 0) (nx : A → A) (lab : A → ℕ) → ℕ → ℕ → ℕ → Type 0
At A Live nx lab a b c = (h : A) × Live h × (lab h ≡ a) × (lab (nx h) ≡ b) × (lab (nx (nx h)) ≡ c)

-- ---- on the hull: the erased entry has the last number of the ring, m + 1, and is the apex of the faces around it
-- a face without the apex
pub record Below (A : Type 0) (Live : A → Type 0) (nx : A → A) (lab : A → ℕ) (m : ℕ) (h : A) : Type 0 where
  pub live : Live h
  pub first : lab h ≤ m
  pub second : lab (nx h) ≤ m
  pub third : lab (nx (nx h)) ≤ m

-- the half across from the apex
pub record Across (A : Type 0) (Live : A → Type 0) (nx : A → A) (lab : A → ℕ) (m : ℕ) (h : A) : Type 0 where
  pub live : Live h
  pub apex : lab (nx (nx h)) ≡ suc m

-- a half from a to b across from the apex
abbrev pub Top : (A : Type 0) (Live : A → Type 0) (nx : A → A) (lab : A → ℕ) (m : ℕ) → ℕ → ℕ → Type 0
Top A Live nx lab m a b = (h : A) × Across A Live nx lab m h × (lab h ≡ a) × (lab (nx h) ≡ b)
