use Rattle.delaunay.proofs.Erased.{border_stays}
use Rattle.delaunay.proofs.border_legal_stands.Goals as goal

pub returns : goal.returns
returns c = border_stays
