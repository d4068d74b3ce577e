use Rattle.std.proofs.Common.{[], ◌∷◌, w64, nat_abs, ◌≤◌}
use mathlib.Core.Path.{subst⁻¹}
use Rattle.zring.proofs.Ring.{E, v, ◌⊹◌, ◌⊛◌}
use Rattle.zring.proofs.Machine.{AllNear, held_fits, held_is}
use Rattle.plane.proofs.Offsets.{products_small}
use Rattle.plane.proofs.offset.Offset.dot.Goals as goal

computed : E
computed = v 0 ⊛ v 2 ⊹ v 1 ⊛ v 3

pub overflow_add-result : goal.overflow_add-result
unfolding computed
overflow_add-result c =
    let a = c.args.self in
    let b = c.args.other in
    held_fits w64 16383 (a.x ∷ a.y ∷ b.x ∷ b.y ∷ []) computed (a.columns, (a.rows, (b.columns, (b.rows, tt)))) tt tt

pub returns : goal.returns
unfolding computed
returns c =
    let a = c.args.self in
    let b = c.args.other in
    let h : AllNear 16383 (a.x ∷ a.y ∷ b.x ∷ b.y ∷ []) = (a.columns, (a.rows, (b.columns, (b.rows, tt)))) in
    let e = held_is w64 16383 (a.x ∷ a.y ∷ b.x ∷ b.y ∷ []) computed h tt tt in
    record { value = e; small = subst⁻¹ (λ z. nat_abs z ≤ 536805378) e (products_small a.x a.y b.x b.y h).1 }
