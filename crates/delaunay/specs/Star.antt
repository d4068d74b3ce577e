-- The places around an entry o that is to go, in order, and faces on them.
use Rattle.std.specs.Prelude.{◌≡◌, ℕ, suc, ◌+◌, ◌<◌, ◌≤◌, ◌⊎◌, pos, ◌≤ℤ◌, ◌<ℤ◌}
use Rattle.plane.specs.Plane.{Pt, S, C}
use Rattle.plane.specs.Spot.{Small}
use Rattle.planar.specs.Order.{Ccw3}
use Rattle.delaunay.specs.Ring.{Cyc, Next}

-- inside: the k faces o, p i, p (i + 1) go once around
pub record Star (o : Pt) (p : ℕ → Pt) (k : ℕ) : Type 0 where
  pub three : 2 < k
  pub closed : p k ≡ p 0
  pub small : (i : ℕ) → i < k → Small (p i)
  pub ahead : (i : ℕ) → i < k → pos 0 <ℤ S o (p i) (p (suc i))
  pub around : (i j l : ℕ) → i < j → j < l → l < k → Ccw3 o (p i) (p j) (p l)
  pub empty : (i l : ℕ) → i < k → l < k → pos 0 ≤ℤ C (p i) (p (suc i)) (p l) o
  -- every direction is in a sector
  pub sector : (q : Pt) → (i : ℕ) × (i < k) × (pos 0 ≤ℤ S o (p i) q) × (S o (p (suc i)) q ≤ℤ pos 0)

-- faces on the ring, by numbers: each side joins neighbours, or there is a face across it and the edge is legal
pub record Faces (p : ℕ → Pt) (k : ℕ) (F : ℕ → ℕ → ℕ → Type 0) : Type 0 where
  pub order : (a b c : ℕ) → F a b c → Cyc k a b c
  pub turn : (a b c : ℕ) → F a b c → F b c a
  pub over : (a b c : ℕ) → F a b c → Next k a b ⊎ ((d : ℕ) × F b a d × (C (p a) (p b) (p c) (p d) ≤ℤ pos 0))

-- on the hull: the m faces o, p i, p (i + 1); no more than a half turn in all
pub record Chain (o : Pt) (p : ℕ → Pt) (m : ℕ) : Type 0 where
  pub some : 0 < m
  pub small : (i : ℕ) → i ≤ m → Small (p i)
  pub ahead : (i : ℕ) → i < m → pos 0 <ℤ S o (p i) (p (suc i))
  pub fan : (i j : ℕ) → i < j → j ≤ m → j < i + m → pos 0 <ℤ S o (p i) (p j)
  pub wide : pos 0 ≤ℤ S o (p 0) (p m)
  pub empty : (i l : ℕ) → i < m → l ≤ m → pos 0 ≤ℤ C (p i) (p (suc i)) (p l) o

-- faces G on the chain, and outer halves O over them
pub record Roof (p : ℕ → Pt) (m : ℕ) (G : ℕ → ℕ → ℕ → Type 0) (O : ℕ → ℕ → Type 0) : Type 0 where
  pub order : (a b c : ℕ) → G a b c → Cyc (suc m) a b c
  pub left : (a b c : ℕ) → G a b c → pos 0 ≤ℤ S (p a) (p b) (p c)
  pub turn : (a b c : ℕ) → G a b c → G b c a
  pub over : (a b c : ℕ) → G a b c → (suc a ≡ b) ⊎ (O b a ⊎ ((d : ℕ) × G b a d × (C (p a) (p b) (p c) (p d) ≤ℤ pos 0)))
  pub out : (a b : ℕ) → O a b → (a < b) × (b ≤ m)
  pub under : (a b : ℕ) → O a b → (suc a ≡ b) ⊎ ((d : ℕ) × G b a d)
  pub next : (a b : ℕ) → O a b → (b ≡ m) ⊎ ((c : ℕ) × O b c × (S (p a) (p b) (p c) ≤ℤ pos 0))
  pub prev : (a b : ℕ) → O a b → (a ≡ 0) ⊎ ((c : ℕ) × O c a × (S (p c) (p a) (p b) ≤ℤ pos 0))
