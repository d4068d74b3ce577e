-- One word after the other is a coordinate.
use Rattle.pad.proofs.Taking.{float_taken}
use Rattle.pad.proofs.kind.Point2Written.read.Goals as goal

pub returns : goal.returns
returns c = (
  c.read.new.self,
  float_taken _ c.args.words.now _ c.read.new.self c.in_ok-x.ensures,
  float_taken _ c.read.new.self _ c.read-2.new.self c.in_ok-y.ensures,
)
