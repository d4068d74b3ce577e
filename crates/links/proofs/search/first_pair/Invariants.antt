use Rattle.std.proofs.Common.{ℕ, ◌<◌, None}
use Rattle.links.proofs.search.first_pair.Given as goal

abbrev pub invariant-loop-i : goal.invariant-loop-i
invariant-loop-i g l = (k : ℕ) → k < l.i → goal.S-post g l.second k None
