use Rattle.links.proofs.Worked.{worked}
use Rattle.links.proofs.theorems.worked_maps_stands.Goals as goal

pub returns : goal.returns
returns c = worked
