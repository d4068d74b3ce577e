use Rattle.planar.proofs.Spokes.{ends_differ}
use Rattle.planar.proofs.ends_differ_stands.Goals as goal

pub returns : goal.returns
returns c = ends_differ
