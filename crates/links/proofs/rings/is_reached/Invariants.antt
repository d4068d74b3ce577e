use Rattle.std.proofs.Common.{◌≡◌, ℕ, ◌<◌}
use Rattle.links.specs.Links.{walk}
use Rattle.links.specs.Views.{held_in}
use Rattle.links.proofs.rings.is_reached.Given as goal

abbrev pub invariant-loop : goal.invariant-loop
invariant-loop g l =
    (walk (g.R.Ring.step (held_in l.t)) l.counter l.s ≡ l.at)
    × ((i : ℕ) → i < l.counter → ¬ (walk (g.R.Ring.step (held_in l.t)) i l.s ≡ l.h))
