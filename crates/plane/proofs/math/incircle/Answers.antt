use Rattle.std.proofs.Common.{◌≡◌, ◌^◌, ◌<◌, ◌∙◌, nat_abs, ◌+ℤ◌, ◌*ℤ◌}
use mathlib.Core.Path.{subst⁻¹}
use Rattle.plane.specs.Plane.{C}
use Rattle.plane.specs.Spot.{spot}
use Rattle.plane.proofs.Offsets.{by_last_column, three_are}
use Rattle.plane.proofs.Bounds.{circle_small, spot_small}
use Rattle.plane.proofs.math.incircle.Goals as goal

pub returns : goal.returns
unfolding C
returns c =
    let g = c.args in
    let e : c.square.result *ℤ c.cross.result +ℤ c.square-2.result *ℤ c.cross-2.result +ℤ c.square-3.result *ℤ c.cross-3.result ≡ C (spot g.a) (spot g.b) (spot g.c) (spot g.d) =
    cc (by_last_column c.between-to_a.result.x c.between-to_a.result.y c.between-to_b.result.x c.between-to_b.result.y c.between-to_c.result.x c.between-to_c.result.y) in
    let r =
    three_are c.square.result c.cross.result c.square-2.result c.cross-2.result c.square-3.result c.cross-3.result
    c.square.ensures.small c.cross.ensures.small c.square-2.ensures.small c.cross-2.ensures.small c.square-3.ensures.small c.cross-3.ensures.small ∙ e in
    record { value = r; small = subst⁻¹ (λ z. nat_abs z < 2 ^ 60) r (circle_small _ _ _ _ (spot_small g.a) (spot_small g.b) (spot_small g.c) (spot_small g.d)) }
