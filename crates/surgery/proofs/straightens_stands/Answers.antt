use Rattle.surgery.proofs.Theorems.{straightens}
use Rattle.surgery.proofs.straightens_stands.Goals as goal

pub returns : goal.returns
returns c = straightens
