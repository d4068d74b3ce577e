use Rattle.surgery.proofs.Sweeping.{cleans}
use Rattle.surgery.proofs.cleans_stands.Goals as goal

pub returns : goal.returns
returns c = cleans
