use Rattle.delaunay.proofs.Scan.{scan_flip}
use Rattle.delaunay.proofs.scan_flip_stands.Goals as goal

pub returns : goal.returns
returns c = scan_flip
