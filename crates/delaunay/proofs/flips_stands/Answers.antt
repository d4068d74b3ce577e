use Rattle.std.proofs.Common.{◌≡◌, ℕ, true}
use native.Mathlib.Decide.{ℕ_discrete}
use Rattle.delaunay.proofs.Mesh.{flipped}
use Rattle.delaunay.proofs.flips_stands.Goals as goal

pub returns : goal.returns
returns c = λ live nx tw lab k edge m. flipped ℕ ℕ_discrete (λ h. live h ≡ true) nx tw lab k (λ a b. edge a b ≡ true) m
