-- Expressions over whole numbers.
use Rattle.std.specs.Prelude.{List, [], ◌∷◌, ℕ, zero, suc, ℤ, pos, ◌+ℤ◌, ◌-ℤ◌, ◌*ℤ◌, neg_ℤ}

infixl 6 ◌⊹◌ ◌⊖◌
infixl 7 ◌⊛◌
infix 8 ⊝◌
-- a variable by its number, a constant, a sum, a difference, a product, a negation
pub data E : Type 0 where
  v : ℕ → E
  k : ℤ → E
  ◌⊹◌ : E → E → E
  ◌⊖◌ : E → E → E
  ◌⊛◌ : E → E → E
  ⊝◌ : E → E

-- the value of variable i; 0 past the end of the list
abbrev pub nth : List ℤ → ℕ → ℤ
nth [] i = pos 0
nth (x ∷ ρ) zero = x
nth (x ∷ ρ) (suc i) = nth ρ i

-- the value of an expression
abbrev pub den : E → List ℤ → ℤ
den (v i) ρ = nth ρ i
den (k c) ρ = c
den (a ⊹ b) ρ = den a ρ +ℤ den b ρ
den (a ⊖ b) ρ = den a ρ -ℤ den b ρ
den (a ⊛ b) ρ = den a ρ *ℤ den b ρ
den (⊝ a) ρ = neg_ℤ (den a ρ)
