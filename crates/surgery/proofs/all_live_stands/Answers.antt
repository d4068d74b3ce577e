use Rattle.surgery.proofs.Theorems.{all_live}
use Rattle.surgery.proofs.all_live_stands.Goals as goal

pub returns : goal.returns
returns c = all_live
