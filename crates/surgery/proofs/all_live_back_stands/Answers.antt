use Rattle.surgery.proofs.Theorems.{all_live_back}
use Rattle.surgery.proofs.all_live_back_stands.Goals as goal

pub returns : goal.returns
returns c = all_live_back
