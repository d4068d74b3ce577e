-- The measure of flips: the volumes of the faces over a place.
use Rattle.std.specs.Prelude.{◌≡◌, ℕ, zero, suc, ◌<◌, ℤ, pos, ◌+ℤ◌, ◌≢◌}

-- the sum of f 0 .. f (n - 1)
abbrev pub total : (ℕ → ℤ) → ℕ → ℤ
total f zero = pos 0
total f (suc n) = total f n +ℤ f n

-- f becomes g at the numbers i and j alone
pub record Changed (f g : ℕ → ℤ) (i j n : ℕ) : Type 0 where
  pub first : i < n
  pub second : j < n
  pub apart : i ≡ j → ⊥
  pub other : (m : ℕ) → m < n → (m ≢ i) → (m ≢ j) → g m ≡ f m
