use Rattle.delaunay.proofs.Scan.{scan_before}
use Rattle.delaunay.proofs.scan_before_stands.Goals as goal

pub returns : goal.returns
returns c = scan_before
