use Rattle.walk.proofs.Instances.{along_hull}
use Rattle.walk.proofs.theorems.along_hull_stands.Goals as goal

pub returns : goal.returns
returns c = along_hull
