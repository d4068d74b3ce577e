use Rattle.plane.proofs.Sides.{S-cyc, S-swap, S-split}
use Rattle.plane.proofs.theorems.side_laws_stands.Goals as goal

pub returns : goal.returns
returns c = (S-cyc, S-swap, S-split)
