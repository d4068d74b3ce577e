use Rattle.surgery.proofs.Theorems.{flips}
use Rattle.surgery.proofs.flips_stands.Goals as goal

pub returns : goal.returns
returns c = flips
