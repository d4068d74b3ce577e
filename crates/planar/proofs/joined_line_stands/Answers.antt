use Rattle.planar.proofs.Joined.{joined_line}
use Rattle.planar.proofs.joined_line_stands.Goals as goal

pub returns : goal.returns
returns c = joined_line
