use Rattle.surgery.proofs.Theorems.{moves_edge}
use Rattle.surgery.proofs.moves_edge_stands.Goals as goal

pub returns : goal.returns
returns c = moves_edge
