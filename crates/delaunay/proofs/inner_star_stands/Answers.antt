use Rattle.delaunay.proofs.Erased.{inner_star}
use Rattle.delaunay.proofs.inner_star_stands.Goals as goal

pub returns : goal.returns
returns c = inner_star
