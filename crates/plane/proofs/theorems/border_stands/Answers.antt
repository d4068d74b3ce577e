use Rattle.plane.proofs.Signs.{border_legal}
use Rattle.plane.proofs.theorems.border_stands.Goals as goal

pub returns : goal.returns
returns c = border_legal
