use Rattle.planar.proofs.Star.{wedge}
use Rattle.planar.proofs.wedge_stands.Goals as goal

pub returns : goal.returns
returns c = wedge
