-- A write of several numbers at once.
use Rattle.std.proofs.Common.{◌≡◌, ℕ, ◌+◌, ◌≤◌, ◌<◌, List, [], ◌∷◌, length, set, arith, add-one, append_assoc, length-set, drop-cons}
use Rattle.std.proofs.lemmas.List.{take-append-drop, take_more_set, drop-set-lt}
use borrow.Rule.Slice.PartMut.{put_mid}
use Rattle.preset_map.specs.Filling.{with_values}

-- the part from `at` on is the values
values_on : (vs w : List ℕ) (at : ℕ) → at + length vs ≤ length w → put_mid at (length vs) w vs ≡ with_values w at vs
values_on [] w at fits = take-append-drop at w
values_on (v ∷ vs) w at fits =
    let here : at < length w = omega arith in
    let past : at < at + 1 = omega arith in
    let rest : at + 1 + length vs ≤ length (set w at v) = rw length-set (omega arith) in
    rw (drop-cons w at 0, ← add-one at)
    (rw (take_more_set w at v here, drop-set-lt (at + 1) w at v past, append_assoc) at (values_on vs (set w at v) (at + 1) rest))

pub part_is_with_values : (at k : ℕ) (w ys vs : List ℕ) → ys ≡ vs → k ≡ length vs → at + k ≤ length w → put_mid at k w ys ≡ with_values w at vs
part_is_with_values at k w ys vs e f fits = rw (e, f) (values_on vs w at (omega arith))
