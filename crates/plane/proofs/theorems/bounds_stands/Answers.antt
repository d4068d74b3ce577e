use Rattle.plane.proofs.Bounds.{side_small, circle_small, side_sharp}
use Rattle.plane.proofs.theorems.bounds_stands.Goals as goal

pub returns : goal.returns
returns c = (side_small, circle_small, side_sharp)
