use Rattle.std.proofs.Common.{ℕ, suc, ◌<◌, sym, ◌∙◌, subst, add-one}
use Rattle.links.specs.Links.{Links, halves}
use Rattle.links.specs.Views.{held_in}
use Rattle.links.proofs.Cycles.{Found, went_on, at_end}
use Rattle.links.proofs.rings.first_broken.Goals as goal

pub loop-h-preserved : goal.loop-h-preserved
loop-h-preserved g c =
    let m : Links = held_in c.args.t in
    let step = g.R.Ring.step m in
    let owner = g.R.Ring.owner m in
    let root = g.R.Ring.root m in
    let h : ℕ = c.loop-h.h in
    let less : h < halves m = subst (λ z. h < z) c.halves-h-end.ensures c.loop-h-test.true in
    rw add-one (subst (λ z. Found m step owner root c.args.count z (suc h)) (sym c.lowered-low.ensures) (went_on m step owner root c.args.count c.loop-h.low h less c.loop-h.invariant))

pub returns : goal.returns
returns g c =
    let m : Links = held_in c.args.t in
    c.then_some.ensures
    ∙ at_end m (g.R.Ring.step m) (g.R.Ring.owner m) (g.R.Ring.root m) c.args.count c.loop-h.low c.loop-h.h c.halves-h-end.result c.halves-h-end.ensures c.loop-h-test.false c.loop-h.invariant
