use Rattle.delaunay.proofs.Ears.{ring_end}
use Rattle.delaunay.proofs.ring_end_stands.Goals as goal

pub returns : goal.returns
returns c = ring_end
