use Rattle.delaunay.proofs.Erased.{inner_others}
use Rattle.delaunay.proofs.inner_others_stands.Goals as goal

pub returns : goal.returns
returns c = inner_others
