use Rattle.std.proofs.Common.{rules, true, false}
use Rattle.std.proofs.lemmas.Iterator.{first_from_Range}
use Rattle.links.proofs.First.{failing_by}
use Rattle.links.proofs.search.first_failing.Goals as goal

pub returns : goal.returns
returns g c t is =
    failing_by c.args.count t (goal.T-post g c.args.test) is c.find.result
    (first_from_Range _ _ _ c.find.result (λ i. goal.T-post g c.args.test i false) (λ i. goal.T-post g c.args.test i true) c.find.ensures.ran (λ x q k. search rules) (λ x q k. search rules))
