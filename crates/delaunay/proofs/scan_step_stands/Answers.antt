use Rattle.delaunay.proofs.Ears.{scan_step}
use Rattle.delaunay.proofs.scan_step_stands.Goals as goal

pub returns : goal.returns
returns c = scan_step
