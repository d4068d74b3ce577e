use Rattle.std.proofs.Common.{◌≡◌, ℕ, suc, ◌+◌, ◌*◌, List, length, set, sym, ap, ◌∙◌, subst, ap₂, add-one}
use Rattle.links.specs.Kept.{copied}
use Rattle.links.specs.Shelf.{spot_at}
use Rattle.links.specs.Verdict.{x_coordinate, y_coordinate}
use Rattle.links.proofs.Law.{passes2}
use Rattle.links.proofs.Spots.{place_is, point_x, point_y}
use Rattle.links.proofs.copy.copy_places.Goals as goal

pub loop-v-preserved : goal.loop-v-preserved
loop-v-preserved g c =
    let v : ℕ = c.loop-v.v in
    let es = c.args.entries.now in
    let spots = spot_at g.E.Scalar.GridScalar.reading g.E.HasPosition.across g.E.HasPosition.along es in
    let at = place_is g.E.Scalar.GridScalar.reading g.E.HasPosition.across g.E.HasPosition.along es v c.index-entries-v.result
    c.grid_place-spot.result.x c.grid_place-spot.result.y c.loop-v-test.true c.index-entries-v.is ((passes2 (length es) spots).0 c.requires.placed) c.grid_place-spot.ensures in
    let ex : c.x.result ≡ x_coordinate (spots v) = c.x.ensures ∙ point_x _ _ _ _ at in
    let ey : c.y.result ≡ y_coordinate (spots v) = c.y.ensures ∙ point_y _ _ _ _ at in
    let done : set (set c.loop-v.words (3 * v) c.x.result) (3 * v + 1) c.y.result ≡ copied c.args.words.now spots (suc v) =
    ap (λ (w : List ℕ). set (set w (3 * v) c.x.result) (3 * v + 1) c.y.result) c.loop-v.invariant
    ∙ ap₂ (λ (a b : ℕ). set (set (copied c.args.words.now spots v) (3 * v) a) (3 * v + 1) b) ex ey in
    subst (λ (k : ℕ). set (set c.loop-v.words (3 * v) c.x.result) (3 * v + 1) c.y.result ≡ copied c.args.words.now spots k) (sym (add-one v)) done
