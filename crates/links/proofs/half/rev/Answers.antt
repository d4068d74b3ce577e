use Rattle.std.proofs.Common.{arith}
use Rattle.links.specs.Links.{rev}
use Rattle.links.proofs.half.rev.Goals as goal

pub returns-then-h-eq0 : goal.returns-then-h-eq0
unfolding rev
returns-then-h-eq0 c = omega arith

pub returns-else-h-eq0 : goal.returns-else-h-eq0
unfolding rev
returns-else-h-eq0 c = omega arith
