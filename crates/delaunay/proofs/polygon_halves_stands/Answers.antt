use Rattle.std.proofs.Common.{◌≡◌, ℕ, true}
use Rattle.delaunay.proofs.Halves.{by_halves}
use Rattle.delaunay.proofs.polygon_halves_stands.Goals as goal

pub returns : goal.returns
returns c = λ live nx tw lab w k u. by_halves ℕ (λ h. live h ≡ true) nx tw lab w k u
