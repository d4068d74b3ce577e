use Rattle.delaunay.proofs.Cycle.{flip_order}
use Rattle.delaunay.proofs.order_stands.Goals as goal

pub returns : goal.returns
returns c = flip_order
