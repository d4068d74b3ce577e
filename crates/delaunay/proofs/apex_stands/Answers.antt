use Rattle.std.proofs.Common.{◌≡◌, ℕ, true}
use Rattle.delaunay.proofs.Apex.{capped}
use Rattle.delaunay.proofs.apex_stands.Goals as goal

pub returns : goal.returns
returns c = λ live nx tw lab m g p left ok right. capped ℕ (λ h. live h ≡ true) nx tw lab m g p left ok right
