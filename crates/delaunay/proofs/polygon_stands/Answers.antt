use Rattle.std.proofs.Common.{◌≡◌, true}
use Rattle.delaunay.proofs.Gaps.{polygon}
use Rattle.delaunay.proofs.polygon_stands.Goals as goal

pub returns : goal.returns
returns c = λ w k u F. polygon w k u (λ a b c. F a b c ≡ true)
