use Rattle.plane.proofs.Convex.{broken}
use Rattle.plane.proofs.theorems.broken_stands.Goals as goal

pub returns : goal.returns
returns c = broken
