use Rattle.plane.proofs.Circles.{C-swap, C-turn, C-end, C-cyc}
use Rattle.plane.proofs.theorems.circle_laws_stands.Goals as goal

pub returns : goal.returns
returns c = (C-swap, C-turn, C-end, C-cyc)
