use Rattle.std.proofs.Common.{sym, ◌∙◌, lt_of_lt_of_le}
use Rattle.links.specs.Views.{held_in}
use Rattle.links.proofs.First.{reaches_yes, reaches_no}
use Rattle.links.proofs.rings.is_reached.Goals as goal

pub returns-then-at-h : goal.returns-then-at-h
returns-then-at-h g c =
    sym (reaches_yes (g.R.Ring.step (held_in c.args.t)) c.args.bound c.args.s c.args.h c.loop.counter c.loop-test.true (c.loop.invariant.0 ∙ c.if-at-h.true))

pub returns : goal.returns
returns g c =
    sym (reaches_no (g.R.Ring.step (held_in c.args.t)) c.args.bound c.args.s c.args.h (λ i l. c.loop.invariant.1 i (lt_of_lt_of_le l c.loop-test.false)))
