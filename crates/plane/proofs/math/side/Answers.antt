use Rattle.std.proofs.Common.{◌≡◌, ◌≤◌, to_z-of_z, SFits, w64, arith, ◌∙◌}
use borrow.Author.Differences.{ints}
use mathlib.Core.Path.{subst⁻¹}
use Rattle.std.specs.Prelude.{unsigned_abs}
use Rattle.plane.specs.Plane.{S}
use Rattle.plane.specs.Spot.{spot}
use Rattle.plane.proofs.Bounds.{side_small, spot_small}
use Rattle.plane.proofs.math.side.Goals as goal

pub returns : goal.returns
unfolding S
returns c =
    let e : c.cross.result ≡ S (spot c.args.a) (spot c.args.b) (spot c.args.q) = cc in
    let f : SFits w64 c.cross.result = omega (arith, ints) in
    let r = to_z-of_z f ∙ e in
    record { value = r; small = subst⁻¹ (λ z. unsigned_abs z ≤ 268402689) r (side_small _ _ _ (spot_small c.args.a) (spot_small c.args.b) (spot_small c.args.q)) }
