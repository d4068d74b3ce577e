use Rattle.plane.proofs.Signs.{mean3}
use Rattle.plane.proofs.theorems.mean_stands.Goals as goal

pub returns : goal.returns
returns c = mean3
