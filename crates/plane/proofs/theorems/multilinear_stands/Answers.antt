use Rattle.plane.proofs.Forms.{D-row1, D-row2, D-row3, D-row4, D-less}
use Rattle.plane.proofs.theorems.multilinear_stands.Goals as goal

pub returns : goal.returns
returns c = (D-row1, D-row2, D-row3, D-row4, D-less)
