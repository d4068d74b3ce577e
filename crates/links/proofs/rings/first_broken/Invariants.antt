use Rattle.links.specs.Views.{held_in}
use Rattle.links.proofs.Cycles.{Found}
use Rattle.links.proofs.rings.first_broken.Given as goal

abbrev pub invariant-loop-h : goal.invariant-loop-h
invariant-loop-h g l =
    Found (held_in l.t) (g.R.Ring.step (held_in l.t)) (g.R.Ring.owner (held_in l.t)) (g.R.Ring.root (held_in l.t)) l.count l.low l.h
