use Rattle.surgery.proofs.Theorems.{cuts}
use Rattle.surgery.proofs.cuts_stands.Goals as goal

pub returns : goal.returns
returns c = cuts
