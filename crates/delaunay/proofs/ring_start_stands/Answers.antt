use Rattle.delaunay.proofs.Ears.{ring_start}
use Rattle.delaunay.proofs.ring_start_stands.Goals as goal

pub returns : goal.returns
returns c = ring_start
