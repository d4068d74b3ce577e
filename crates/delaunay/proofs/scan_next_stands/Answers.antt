use Rattle.delaunay.proofs.Scan.{scan_next}
use Rattle.delaunay.proofs.scan_next_stands.Goals as goal

pub returns : goal.returns
returns c = scan_next
