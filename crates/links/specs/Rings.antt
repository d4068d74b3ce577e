-- Cycles of halves, part by part.
use Rattle.std.specs.Prelude.{◌≡◌, ℕ, ◌<◌, ◌≤◌, Bool, true, false, cond, not, ◌&&◌, ◌==◌, nat_lt}
use Rattle.links.specs.Links.{Links}
use Rattle.links.specs.Tests.{implies, present, reaches, cycle}

-- the cycle from s is k's own, if there is one
abbrev pub own : (ℕ → ℕ) → ℕ → ℕ → Bool
own owner k s = implies (present s) (owner s == k)

-- the cycle from s leads to h
abbrev pub home : (ℕ → ℕ) → ℕ → ℕ → ℕ → Bool
home step bound s h = present s && reaches step bound s h

-- k, if it is lower and its cycle does not lead home
abbrev pub lower : ℕ → ℕ → Bool → ℕ
lower low k led = cond (nat_lt k low && not led) k low

-- the halves of k are one cycle from its root
abbrev pub whole : Links → (ℕ → ℕ) → (ℕ → ℕ) → (ℕ → ℕ) → ℕ → Bool
whole m step owner root k = cycle m step owner k (root k)

-- r is the lowest number below count whose cycle is not its own, or count
abbrev pub Loose : (ℕ → ℕ) → (ℕ → ℕ) → ℕ → ℕ → Type 0
Loose owner root count r = (r ≤ count) × ((k : ℕ) → k < r → own owner k (root k) ≡ true) × (r < count → own owner r (root r) ≡ false)
