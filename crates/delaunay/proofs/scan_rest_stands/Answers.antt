use Rattle.delaunay.proofs.Scan.{scan_rest}
use Rattle.delaunay.proofs.scan_rest_stands.Goals as goal

pub returns : goal.returns
returns c = scan_rest
