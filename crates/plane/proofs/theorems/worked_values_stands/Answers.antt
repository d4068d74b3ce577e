use Rattle.plane.proofs.Worked.{worked}
use Rattle.plane.proofs.theorems.worked_values_stands.Goals as goal

pub returns : goal.returns
returns c = worked
