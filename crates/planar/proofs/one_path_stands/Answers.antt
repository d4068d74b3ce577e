use Rattle.planar.proofs.Line.{one_path}
use Rattle.planar.proofs.one_path_stands.Goals as goal

pub returns : goal.returns
returns c = one_path
