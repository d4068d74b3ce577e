use Rattle.plane.proofs.Places.{circle_is, side_is}
use Rattle.plane.proofs.theorems.lifted_stands.Goals as goal

pub returns : goal.returns
returns c = (circle_is, side_is)
