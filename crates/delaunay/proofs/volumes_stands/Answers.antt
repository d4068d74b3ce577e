use Rattle.delaunay.proofs.Star.{round_cyc}
use Rattle.delaunay.proofs.volumes_stands.Goals as goal

pub returns : goal.returns
returns c = round_cyc
