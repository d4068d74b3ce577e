use Rattle.delaunay.proofs.StarMesh.{scan_start}
use Rattle.delaunay.proofs.scan_start_stands.Goals as goal

pub returns : goal.returns
returns c = scan_start
