use Rattle.delaunay.proofs.Legal.{legal_is_empty}
use Rattle.delaunay.proofs.legal_is_empty_stands.Goals as goal

pub returns : goal.returns
returns c = legal_is_empty
