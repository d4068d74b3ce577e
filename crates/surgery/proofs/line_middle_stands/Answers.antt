use Rattle.surgery.proofs.Sound.{line_middle}
use Rattle.surgery.proofs.line_middle_stands.Goals as goal

pub returns : goal.returns
returns c = line_middle
