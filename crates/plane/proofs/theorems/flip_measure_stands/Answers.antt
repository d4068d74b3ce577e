use Rattle.plane.proofs.Circles.{volume}
use Rattle.plane.proofs.theorems.flip_measure_stands.Goals as goal

pub returns : goal.returns
returns c = volume
