use Rattle.zring.proofs.Corners.{at_corners}
use Rattle.zring.proofs.at_corners_stands.Goals as goal

pub returns : goal.returns
returns c = at_corners
