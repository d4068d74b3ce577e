use Rattle.delaunay.proofs.Erased.{erased_hull}
use Rattle.delaunay.proofs.erased_hull_stands.Goals as goal

pub returns : goal.returns
returns c = erased_hull
