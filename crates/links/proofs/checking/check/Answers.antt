use Rattle.std.proofs.Common.{min, length, take, sym, ap, ◌∙◌}
use Rattle.links.specs.Shelf.{spot_at}
use Rattle.links.specs.Verdict.{told}
use Rattle.links.proofs.First.{told_ok}
use Rattle.links.proofs.Law.{law}
use Rattle.links.proofs.Spots.{gridded}
use Rattle.links.proofs.checking.check.Goals as goal

pub returns : goal.returns
returns g c =
    let es = take c.args.shape.n c.args.shelf.now in
    let both = law c.args.words.now c.args.shape (min c.args.count (length c.args.shelf.now)) (spot_at g.E.Scalar.GridScalar.reading g.E.HasPosition.across g.E.HasPosition.along es) (gridded g.E.Scalar.GridScalar.reading g.E.HasPosition.across g.E.HasPosition.along g.met.E.Scalar.GridScalar.within es) in
    record {
      outcome = c.judge.ensures;
      law = ((λ e. both.0 (told_ok _ (sym c.judge.ensures ∙ e))), (λ h. c.judge.ensures ∙ ap told (both.1 h)));
    }
