use Rattle.delaunay.proofs.Hull.{arch_cyc}
use Rattle.delaunay.proofs.hull_volumes_stands.Goals as goal

pub returns : goal.returns
returns c = arch_cyc
