use Rattle.plane.proofs.Signs.{tied}
use Rattle.plane.proofs.theorems.tie_stands.Goals as goal

pub returns : goal.returns
returns c = tied
