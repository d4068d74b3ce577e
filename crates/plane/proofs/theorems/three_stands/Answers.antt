use Rattle.plane.proofs.Forms.{three}
use Rattle.plane.proofs.theorems.three_stands.Goals as goal

pub returns : goal.returns
returns c = three
