use Rattle.plane.proofs.Forms.{D-swap12, D-swap23, D-swap34, D-same}
use Rattle.plane.proofs.theorems.alternating_stands.Goals as goal

pub returns : goal.returns
returns c = (D-swap12, D-swap23, D-swap34, D-same)
