use Rattle.surgery.proofs.Theorems.{carries}
use Rattle.surgery.proofs.carries_stands.Goals as goal

pub returns : goal.returns
returns c = carries
