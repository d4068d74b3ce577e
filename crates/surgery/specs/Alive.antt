-- Edges that live while dead ones are removed.
use Rattle.std.specs.Prelude.{ℕ, ◌<◌, ◌≢◌}

-- below the count, and not dead
abbrev pub Alive : ℕ → (ℕ → Type 0) → ℕ → Type 0
Alive e D k = (k < e) × (D k → ⊥)

-- all dead but one
abbrev pub Less : (ℕ → Type 0) → ℕ → ℕ → Type 0
Less D d k = D k × (k ≢ d)
