use Rattle.delaunay.proofs.Ears.{ear_step}
use Rattle.delaunay.proofs.ear_step_stands.Goals as goal

pub returns : goal.returns
returns c = ear_step
