use Rattle.plane.proofs.Signs.{sector_side}
use Rattle.plane.proofs.theorems.sector_stands.Goals as goal

pub returns : goal.returns
returns c = sector_side
