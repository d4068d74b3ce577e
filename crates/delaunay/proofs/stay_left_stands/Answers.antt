use Rattle.std.proofs.Common.{◌≡◌, ℕ, true}
use native.Mathlib.Decide.{ℕ_discrete}
use Rattle.delaunay.proofs.Mesh.{stay_left}
use Rattle.delaunay.proofs.stay_left_stands.Goals as goal

pub returns : goal.returns
returns c = λ live nx tw lab k edge m nx' lab' e le lt from to fl.
    stay_left ℕ ℕ_discrete (λ h. live h ≡ true) nx tw lab k (λ a b. edge a b ≡ true) m nx' lab' e le lt from to fl
