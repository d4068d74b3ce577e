use Rattle.std.proofs.Common.{◌≡◌, ℕ, ◌<◌, None}
use Rattle.links.specs.Shelf.{spot_at}
use Rattle.links.specs.Verdict.{unplaced}
use Rattle.links.proofs.rules.rule_2.Given as goal

abbrev pub invariant-loop-v : goal.invariant-loop-v
invariant-loop-v g l = (k : ℕ) → k < l.v → unplaced k (spot_at g.E.Scalar.GridScalar.reading g.E.HasPosition.across g.E.HasPosition.along l.entries k) ≡ None
