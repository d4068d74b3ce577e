use Rattle.delaunay.proofs.Erased.{hull_others}
use Rattle.delaunay.proofs.hull_others_stands.Goals as goal

pub returns : goal.returns
returns c = hull_others
