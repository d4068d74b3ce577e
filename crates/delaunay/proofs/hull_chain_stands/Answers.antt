use Rattle.delaunay.proofs.Erased.{hull_chain}
use Rattle.delaunay.proofs.hull_chain_stands.Goals as goal

pub returns : goal.returns
returns c = hull_chain
