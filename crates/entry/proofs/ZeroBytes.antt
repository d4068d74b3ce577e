-- Of a list of bytes: whether it has a 0, and the number that it makes with zeros after it.
use Rattle.std.proofs.Common.{◌≡◌, ℕ, ◌≤◌, ◌||◌, List, [], ◌∷◌, ◌++◌, length, drop, w64, refl, ap, ◌==◌, arith}
use Rattle.std.specs.Int.{from_be_bytes}
use Rattle.std.specs.List.{list_any}
use Rattle.entry.specs.Naming.{has_zero_byte, packed}

pub zero_found : (bs : List ℕ) → list_any (λ y. y == 0) bs ≡ has_zero_byte bs
zero_found [] = refl
zero_found (b ∷ bs) = ap (λ z. (b == 0) || z) (zero_found bs)

pub with_zeros : (bs : List ℕ) → length bs ≤ 8 → from_be_bytes w64 (bs ++ drop (length bs) (0 ∷ 0 ∷ 0 ∷ 0 ∷ 0 ∷ 0 ∷ 0 ∷ 0 ∷ [])) ≡ packed bs
with_zeros [] h = refl
with_zeros (a ∷ []) h = refl
with_zeros (a ∷ b ∷ []) h = refl
with_zeros (a ∷ b ∷ c ∷ []) h = refl
with_zeros (a ∷ b ∷ c ∷ d ∷ []) h = refl
with_zeros (a ∷ b ∷ c ∷ d ∷ e ∷ []) h = refl
with_zeros (a ∷ b ∷ c ∷ d ∷ e ∷ f ∷ []) h = refl
with_zeros (a ∷ b ∷ c ∷ d ∷ e ∷ f ∷ g ∷ []) h = refl
with_zeros (a ∷ b ∷ c ∷ d ∷ e ∷ f ∷ g ∷ i ∷ []) h = refl
with_zeros (a ∷ b ∷ c ∷ d ∷ e ∷ f ∷ g ∷ i ∷ j ∷ k) h = absurd (omega arith)
