-- A ring of k vectors, by their numbers, and faces on it.
use Rattle.std.specs.Prelude.{◌≡◌, ℕ, suc, ◌+◌, ◌<◌, ◌⊎◌, pos, ◌≤ℤ◌, ◌<ℤ◌}
use Rattle.plane.specs.Vec.{Vec, D}

-- three numbers below k in the order of the ring, from any of them on
abbrev pub Cyc : ℕ → ℕ → ℕ → ℕ → Type 0
Cyc k a b c = ((a < b) × (b < c) × (c < k)) ⊎ (((b < c) × (c < a) × (a < k)) ⊎ ((c < a) × (a < b) × (b < k)))

-- neighbours on the ring: b comes after a
abbrev pub Next : ℕ → ℕ → ℕ → Type 0
Next k a b = (suc a ≡ b) ⊎ ((suc a ≡ k) × (b ≡ 0))

-- seen from u the ring is convex; strictly, but for 0, k - 2, k - 1
pub record Seen (w : ℕ → Vec) (k : ℕ) (u : Vec) : Type 0 where
  pub weak : (i j l : ℕ) → i < j → j < l → l < k → pos 0 ≤ℤ D (w i) (w j) (w l) u
  pub strict : (i j l : ℕ) → i < j → j < l → l < k → suc (suc j) < i + k → pos 0 <ℤ D (w i) (w j) (w l) u

-- faces on the ring: each side joins neighbours, or there is a face across it and its outer corner is not inside
pub record Pieces (w : ℕ → Vec) (k : ℕ) (F : ℕ → ℕ → ℕ → Type 0) : Type 0 where
  pub order : (a b c : ℕ) → F a b c → Cyc k a b c
  pub turn : (a b c : ℕ) → F a b c → F b c a
  pub over : (a b c : ℕ) → F a b c → Next k a b ⊎ ((d : ℕ) × F b a d × (D (w a) (w b) (w c) (w d) ≤ℤ pos 0))
