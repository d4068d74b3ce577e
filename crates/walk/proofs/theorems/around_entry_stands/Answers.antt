use Rattle.walk.proofs.Instances.{around_entry}
use Rattle.walk.proofs.theorems.around_entry_stands.Goals as goal

pub returns : goal.returns
returns c = around_entry
