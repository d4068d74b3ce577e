use Rattle.surgery.proofs.Renumbering.{carries_over}
use Rattle.surgery.proofs.carries_over_stands.Goals as goal

pub returns : goal.returns
returns c = carries_over
