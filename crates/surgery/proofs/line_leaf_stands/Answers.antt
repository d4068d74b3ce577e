use Rattle.surgery.proofs.Sound.{line_leaf}
use Rattle.surgery.proofs.line_leaf_stands.Goals as goal

pub returns : goal.returns
returns c = line_leaf
