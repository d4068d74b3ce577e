use Rattle.delaunay.proofs.Measure.{falls}
use Rattle.delaunay.proofs.ends_stands.Goals as goal

pub returns : goal.returns
returns c = falls
