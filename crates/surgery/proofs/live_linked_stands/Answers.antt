use Rattle.surgery.proofs.Theorems.{live_linked}
use Rattle.surgery.proofs.live_linked_stands.Goals as goal

pub returns : goal.returns
returns c = live_linked
