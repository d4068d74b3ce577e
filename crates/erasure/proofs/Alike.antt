-- The link rules say the same of predicates that hold of the same numbers.
use Rattle.std.proofs.Common.{ℕ, ◌<◌, ◌↔◌}
use Rattle.links.specs.Links.{Links}
use Rattle.surgery.proofs.Roots.{Unrooted}
use Rattle.surgery.proofs.Renumbering.{reworded, unrooted_after}

-- below the count, and not dead
abbrev pub Alive : ℕ → (ℕ → Type 0) → ℕ → Type 0
Alive e D k = (k < e) × (D k → ⊥)

-- predicates that hold of the same numbers
abbrev pub Alike : (ℕ → Type 0) → (ℕ → Type 0) → Type 0
Alike P Q = (x : ℕ) → P x ↔ Q x

-- the rules pass from one to the other
pub alike : (L : Links) (V V' E E' F F' : ℕ → Type 0) → Alike V V' → Alike E E' → Alike F F' → Unrooted L V E F → Unrooted L V' E' F'
alike L V V' E E' F F' v e f W = unrooted_after (reworded L.n L.e L.f v e f W) W
