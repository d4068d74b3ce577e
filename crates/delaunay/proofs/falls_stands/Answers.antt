use Rattle.delaunay.proofs.Measure.{flip_falls}
use Rattle.delaunay.proofs.falls_stands.Goals as goal

pub returns : goal.returns
returns c = flip_falls
