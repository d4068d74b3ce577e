use Rattle.std.proofs.Common.{◌≡◌, ℕ, true}
use Rattle.delaunay.proofs.Holes.{filled}
use Rattle.delaunay.proofs.inside_halves_stands.Goals as goal

pub returns : goal.returns
returns c = λ live nx tw lab o p k s m. filled ℕ (λ h. live h ≡ true) nx tw lab o p k s m
