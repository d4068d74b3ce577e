use Rattle.delaunay.proofs.Scan.{scan_end}
use Rattle.delaunay.proofs.scan_end_stands.Goals as goal

pub returns : goal.returns
returns c = scan_end
