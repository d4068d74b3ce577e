use Rattle.plane.proofs.Signs.{flip_ccw}
use Rattle.plane.proofs.theorems.flip_stands.Goals as goal

pub returns : goal.returns
returns c = flip_ccw
