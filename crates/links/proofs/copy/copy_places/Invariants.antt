use Rattle.std.proofs.Common.{◌≡◌}
use Rattle.links.specs.Kept.{copied}
use Rattle.links.specs.Shelf.{spot_at}
use Rattle.links.proofs.copy.copy_places.Given as goal

abbrev pub invariant-loop-v : goal.invariant-loop-v
invariant-loop-v g l = l.words ≡ copied l.initial.words (spot_at g.E.Scalar.GridScalar.reading g.E.HasPosition.across g.E.HasPosition.along l.entries) l.v
