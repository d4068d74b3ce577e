use Rattle.planar.proofs.Sixth.{enough_line}
use Rattle.planar.proofs.enough_line_stands.Goals as goal

pub returns : goal.returns
returns c = enough_line
