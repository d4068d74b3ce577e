use Rattle.delaunay.proofs.Erased.{erased_inside}
use Rattle.delaunay.proofs.erased_inside_stands.Goals as goal

pub returns : goal.returns
returns c = erased_inside
