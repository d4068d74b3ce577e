use Rattle.plane.proofs.Signs.{outer}
use Rattle.plane.proofs.theorems.pencil_stands.Goals as goal

pub returns : goal.returns
returns c = outer
