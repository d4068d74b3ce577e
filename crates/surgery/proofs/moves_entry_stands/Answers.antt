use Rattle.surgery.proofs.Theorems.{moves_entry}
use Rattle.surgery.proofs.moves_entry_stands.Goals as goal

pub returns : goal.returns
returns c = moves_entry
