use Rattle.std.proofs.Common.{◌≡◌, true}
use Rattle.delaunay.proofs.Hull.{ring_out, ring_right, empties, rights}
use Rattle.delaunay.proofs.hull_stands.Goals as goal

pub returns : goal.returns
returns c = λ o p m G O s g.
    record {
      ring = ring_out o p m s (λ a b c. G a b c ≡ true) (λ a b. O a b ≡ true) g;
      others = λ a b c q f e. empties o p m s (λ a b c. G a b c ≡ true) (λ a b. O a b ≡ true) g a b c q f e.elsewhere e.after e.before e.out;
      hull_ring = ring_right o p m s (λ a b c. G a b c ≡ true) (λ a b. O a b ≡ true) g;
      hull_others = λ a b q f e. rights o p m s (λ a b c. G a b c ≡ true) (λ a b. O a b ≡ true) g a b q f e.elsewhere e.after e.before e.out;
    }
