use Rattle.planar.proofs.Ends.{both_outer}
use Rattle.planar.proofs.both_outer_stands.Goals as goal

pub returns : goal.returns
returns c = both_outer
