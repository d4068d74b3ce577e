use Rattle.surgery.proofs.Theorems.{renumbers}
use Rattle.surgery.proofs.renumbers_stands.Goals as goal

pub returns : goal.returns
returns c = renumbers
