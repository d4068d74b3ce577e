use Rattle.planar.proofs.Sixth.{enough_empty}
use Rattle.planar.proofs.enough_empty_stands.Goals as goal

pub returns : goal.returns
returns c = enough_empty
