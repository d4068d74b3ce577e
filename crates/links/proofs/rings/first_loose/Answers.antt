use Rattle.std.proofs.Common.{rules, sym, subst}
use Rattle.links.specs.Rings.{Loose, own}
use Rattle.links.specs.Views.{held_in}
use Rattle.links.proofs.Cycles.{loose_from}
use Rattle.links.proofs.rings.first_loose.Goals as goal

pub returns : goal.returns
returns g c =
    let owner = g.R.Ring.owner (held_in c.args.t) in
    let root = g.R.Ring.root (held_in c.args.t) in
    subst (Loose owner root c.args.count) (sym c.unwrap_or.ensures)
    (loose_from owner root c.args.count c.first_failing.result (c.first_failing.ensures (λ k. own owner k (root k)) (λ i b l p. search rules)))
