use Rattle.std.proofs.Common.{rules, ◌≡◌, to_z-of_z, SFits, w64, arith, ◌∙◌}
use borrow.Author.Differences.{ints}
use Rattle.plane.specs.Plane.{dot}
use Rattle.plane.specs.Spot.{spot}
use Rattle.plane.proofs.math.is_on_segment.Goals as goal

pub returns-then-side-eq0 : goal.returns-then-side-eq0
unfolding dot
returns-then-side-eq0 c =
    let e : c.dot.result ≡ dot (spot c.args.q) (spot c.args.a) (spot c.args.b) = cc in
    let f : SFits w64 c.dot.result = omega (arith, ints) in
    let r = to_z-of_z f ∙ e in
    rw r (search rules)
