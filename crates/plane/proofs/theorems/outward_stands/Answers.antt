use Rattle.plane.proofs.Convex.{convex_at}
use Rattle.plane.proofs.theorems.outward_stands.Goals as goal

pub returns : goal.returns
returns c = convex_at
