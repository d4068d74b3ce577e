use Rattle.std.proofs.Common.{◌≡◌, true}
use Rattle.delaunay.proofs.Star.{lefts, ring_out, empties}
use Rattle.delaunay.proofs.inside_stands.Goals as goal

pub returns : goal.returns
returns c = λ o p k F s g a b c f.
    record {
      left = lefts o p k s (λ a b c. F a b c ≡ true) g a b c f;
      ring = λ j h. ring_out o p k s (λ a b c. F a b c ≡ true) g a b c j f h;
      others = λ q. empties o p k s (λ a b c. F a b c ≡ true) g a b c q f;
    }
