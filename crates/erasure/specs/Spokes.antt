-- The spokes of an entry: the halves out of it, counterclockwise from one of them.
use Rattle.std.specs.Prelude.{ℕ, zero, suc, ◌+◌, ◌*◌, Bool, true, false, ◌||◌, List, [], ◌∷◌, ◌==◌, nat_eq}
use Rattle.links.specs.Links.{Links, halves}
use Rattle.planar.specs.Star.{spoke}

-- the lowest number below k at which the test says yes, or k
abbrev pub first : ℕ → (ℕ → Bool) → ℕ
first zero t = 0
first (suc k) t = elim (t 0) [ true ↦ 0 | false ↦ suc (first k (λ i. t (suc i))) ]

-- how many spokes there are: the steps until s comes again
abbrev pub degree : Links → ℕ → ℕ
degree m s = suc (first (halves m) (λ i. nat_eq (spoke m s (suc i)) s))

-- an edge that ends at v
abbrev pub spoked : Links → ℕ → ℕ → Bool
spoked m v k = m.origin (2 * k) == v || m.origin (2 * k + 1) == v

-- the halves across from v, in the faces left of the spokes: the last of k first
abbrev pub border : Links → ℕ → ℕ → List ℕ
border m s zero = []
border m s (suc k) = m.next (spoke m s k) ∷ border m s k
