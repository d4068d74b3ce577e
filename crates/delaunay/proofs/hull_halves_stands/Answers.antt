use Rattle.std.proofs.Common.{◌≡◌, ℕ, true}
use Rattle.delaunay.proofs.Holes.{hull_ring_out, hull_empties, hull_ring_right, hull_rights}
use Rattle.delaunay.proofs.hull_halves_stands.Goals as goal

pub returns : goal.returns
returns c = λ live out nx pv tw lab o p m s g.
    record {
      ring = hull_ring_out ℕ (λ h. live h ≡ true) (λ h. out h ≡ true) nx pv tw lab o p m s g;
      others = hull_empties ℕ (λ h. live h ≡ true) (λ h. out h ≡ true) nx pv tw lab o p m s g;
      hull_ring = hull_ring_right ℕ (λ h. live h ≡ true) (λ h. out h ≡ true) nx pv tw lab o p m s g;
      hull_others = hull_rights ℕ (λ h. live h ≡ true) (λ h. out h ≡ true) nx pv tw lab o p m s g;
    }
