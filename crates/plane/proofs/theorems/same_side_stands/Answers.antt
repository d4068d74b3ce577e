use Rattle.plane.proofs.Same.{same_side_is}
use Rattle.plane.proofs.theorems.same_side_stands.Goals as goal

pub returns : goal.returns
returns c = same_side_is
